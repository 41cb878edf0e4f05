-- Which bytes are an index, and what is at fault with others.
use Rattle.std.specs.Prelude.{◌≡◌, ℕ, List, Some}
use Rattle.der.specs.Trees.{Valid}
use Rattle.der.specs.Faults.{InElement}
use Rattle.message.specs.declared.fault.MessageFault.{MessageFault}
use Rattle.message.specs.declared.fault.MessageFault.TheVariants.{Element, Field, Count}
use Rattle.message.specs.Formed.{BreaksAt}
use Rattle.stamp_model.specs.Indexes.{Index, index_tree, index_bytes, IndexShape}
use Rattle.index.specs.declared.located.IndexParts.{IndexParts}
use Rattle.index.specs.Grammar.{index_break}
use Rattle.index.specs.Places.{index_at}
use Rattle.index.specs.Limits.{first_too_many_entry_of}

-- the bytes are the index x, with at most so many levels
pub record WrittenAs (levels : ℕ) (bytes : List ℕ) (x : Index) : Type 0 where
  pub valid : Valid (index_tree x) levels
  pub bytes_are : bytes ≡ index_bytes x

-- and it keeps its limits
pub record IsIndex (levels : ℕ) (bytes : List ℕ) (x : Index) : Type 0 where
  pub written : WrittenAs levels bytes x
  pub shape : IndexShape x

-- and its parts lie where the record says
abbrev pub IndexLies : ℕ → List ℕ → IndexParts → Type 0
IndexLies levels bytes parts = (x : Index) × IsIndex levels bytes x × (parts ≡ index_at 0 (index_tree x))

-- the bytes begin with an element, whose first break as an index is at p
abbrev pub Misfit : ℕ → List ℕ → ℕ → Type 0
Misfit levels bytes p = BreaksAt index_break levels bytes p

-- why bytes are no index
abbrev pub NoIndex : ℕ → List ℕ → MessageFault → Type 0
NoIndex levels bytes (Element fault) = InElement levels bytes 0 fault
NoIndex levels bytes (Field p) = Misfit levels bytes p
NoIndex levels bytes (Count p) = (x : Index) × WrittenAs levels bytes x × (first_too_many_entry_of 0 x ≡ Some p)
