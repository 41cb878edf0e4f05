-- The laws of indexes.
use Rattle.std.specs.Prelude.{◌≡◌, ℕ, ◌≤◌, true, List, [], length, None}
use Rattle.der.specs.Trees.{Tree, Valid, tag_of}
use Rattle.fields.specs.Reads.{is}
use Rattle.fields.specs.Rules.{parts_of}
use Rattle.stamp_model.specs.Algorithms.{Algorithm, algorithm_tree}
use Rattle.model.specs.Parts.{Signer}
use Rattle.model.specs.Files.{File}
use Rattle.stamp_model.specs.declared.lists.ListName.{ListName}
use Rattle.stamp_model.specs.Indexes.{Index, index_tree, IndexShape, index_of}
use Rattle.stamp_model.specs.Covering.{elements_of}
use Rattle.index.specs.Grammar.{algorithm, index_break}
use Rattle.index.specs.Limits.{first_too_many_entry_of}
use Rattle.index.specs.Standing.{trees_of, encoded_by}

-- an element tagged 30 with no break is the tree of an algorithm
abbrev pub NoBreakIsAlgorithm : Type 0
NoBreakIsAlgorithm = (levels place : ℕ) (t : Tree) → Valid t levels → is 0x30 (tag_of t) ≡ true → algorithm place (parts_of t) ≡ None →
    (a : Algorithm) × (t ≡ algorithm_tree a)

-- the tree of an algorithm has no break
abbrev pub AlgorithmHasNoBreak : Type 0
AlgorithmHasNoBreak = (place : ℕ) (a : Algorithm) → algorithm place (parts_of (algorithm_tree a)) ≡ None

-- an element with no break is the tree of an index
abbrev pub NoBreakIsIndex : Type 0
NoBreakIsIndex = (levels place : ℕ) (t : Tree) → Valid t levels → index_break place t [] ≡ None → (x : Index) × (t ≡ index_tree x)

-- the tree of an index has no break
abbrev pub IndexHasNoBreak : Type 0
IndexHasNoBreak = (place : ℕ) (x : Index) → index_break place (index_tree x) [] ≡ None

-- no entry is one too many exactly when every list has at most 64
abbrev pub NoneTooMany : Type 0
NoneTooMany = (place : ℕ) (x : Index) → (first_too_many_entry_of place x ≡ None → IndexShape x) × (IndexShape x → first_too_many_entry_of place x ≡ None)

-- the digest D, by this name, is one that an index can hold
pub record Holdable (D : List ℕ → List ℕ) (size : ℕ) (name : List ℕ) : Type 0 where
  pub sized : (xs : List ℕ) → length (D xs) ≡ size
  pub small : size ≤ 64
  pub named : length name ≤ 16

-- the index of at most 64 elements a list is well formed on three levels, and keeps its limits
abbrev pub WrittenIsWell : Type 0
WrittenIsWell = (D : List ℕ → List ℕ) (size : ℕ) (name : List ℕ) (elements : ListName → List (List ℕ)) (levels : ℕ) →
    Holdable D size name → ((list : ListName) → length (elements list) ≤ 64) → 3 ≤ levels →
    Valid (index_tree (index_of D name elements)) levels × IndexShape (index_of D name elements)

-- the elements of a file are the bytes of its trees
abbrev pub TreesTell : Type 0
TreesTell = (f : File) (s : Signer) → elements_of f s ≡ encoded_by (trees_of f s)
