-- Elements of three lists that stand in bytes.
use Rattle.std.specs.Prelude.{◌≡◌, ℕ, ◌≤◌, List, map, length, Some, None, Option}
use Rattle.der.specs.Spans.{part}
use Rattle.der.specs.Trees.{Tree, Valids, encode, encodes}
use Rattle.fields.specs.declared.located.Entries.{Entries}
use Rattle.model.specs.Parts.{row, attribute_tree, Signer}
use Rattle.model.specs.Files.{File}
use Rattle.stamp_model.specs.declared.lists.ListName.{ListName}
use Rattle.stamp_model.specs.declared.lists.ListName.TheVariants.{Certificates, Revocations, Attributes}
use Rattle.stamp_model.specs.Indexes.{Index, entries_for, entry_tree}
use Rattle.stamp_model.specs.Covering.{given}
use Rattle.index.specs.declared.located.IndexParts.{IndexParts}
use Rattle.index.specs.declared.elements.Elements.{Elements}
use Rattle.index.specs.declared.elements.ElementLists.{ElementLists}

-- the elements are these trees, on some level
pub record Stand (elements : Elements) (ts : List Tree) : Type 0 where
  pub levels : ℕ
  pub valid : Valids (row ts) levels
  pub bytes : part elements.reader.bytes.now elements.reader.at elements.reader.end ≡ encodes (row ts)
  pub order : elements.reader.at ≤ elements.reader.end
  pub inside : elements.reader.end ≤ length elements.reader.bytes.now
  pub count : elements.count ≡ length ts

-- the elements of a list
abbrev pub elements_for : ElementLists → ListName → Elements
elements_for lists Certificates = lists.certificates
elements_for lists Revocations = lists.revocations
elements_for lists Attributes = lists.attributes

-- list by list
abbrev pub StandLists : ElementLists → (ListName → List Tree) → Type 0
StandLists lists trees = (list : ListName) → Stand (elements_for lists list) (trees list)

-- each list has at most as many elements as it may
abbrev pub Few : ElementLists → Type 0
Few lists = (lists.certificates.count ≤ 64) × ((lists.revocations.count ≤ 64) × (lists.attributes.count ≤ 64))

-- their bytes, list by list
abbrev pub encoded_by : (ListName → List Tree) → ListName → List (List ℕ)
encoded_by trees list = map encode (trees list)

-- the elements of the lists of a file and one of its signers, as trees
abbrev pub trees_of : File → Signer → ListName → List Tree
trees_of f s Certificates = given f.certificates
trees_of f s Revocations = given f.revocations
trees_of f s Attributes = map attribute_tree (given s.unsigned)

-- so many elements, from one offset of the file to another
pub record Lie (file : List ℕ) (from to many : ℕ) (elements : Elements) : Type 0 where
  pub bytes : elements.reader.bytes.now ≡ file
  pub at : elements.reader.at ≡ from
  pub end : elements.reader.end ≡ to
  pub count : elements.count ≡ many

-- the elements in a field of the file; where it is not there, none
abbrev pub IsIn : List ℕ → Option Entries → Elements → Type 0
IsIn file None elements = Lie file 0 0 0 elements
IsIn file (Some e) elements = Lie file e.field.body e.field.end e.count elements

-- the entries of an index, where its record says that they lie
pub record AreEntries (file : List ℕ) (parts : IndexParts) (lists : ElementLists) : Type 0 where
  pub certificates : IsIn file (Some parts.certificates) lists.certificates
  pub revocations : IsIn file (Some parts.revocations) lists.revocations
  pub attributes : IsIn file (Some parts.attributes) lists.attributes

-- and the elements that they are
abbrev pub entry_trees : Index → ListName → List Tree
entry_trees x list = map entry_tree (entries_for x list)
