-- The entries of some elements, as bytes.
use Rattle.std.specs.Prelude.{ℕ, List, ◌++◌, map}
use Rattle.der.specs.Trees.{Tree, encode, encodes}
use Rattle.model.specs.Parts.{row_of}
use Rattle.stamp_model.specs.declared.lists.ListName.{ListName}
use Rattle.stamp_model.specs.declared.lists.ListName.TheVariants.{Certificates, Revocations, Attributes}
use Rattle.stamp_model.specs.Indexes.{entry_tree, entries_tree}

-- one entry for each: its digest under D
abbrev pub entries_bytes : (List ℕ → List ℕ) → List Tree → List ℕ
entries_bytes D ts = encodes (row_of entry_tree (map D (map encode ts)))

-- the list that holds them
abbrev pub list_tree : (List ℕ → List ℕ) → List Tree → Tree
list_tree D ts = entries_tree (map D (map encode ts))

-- the three lists, as bytes
abbrev pub lists_bytes : (List ℕ → List ℕ) → (ListName → List Tree) → List ℕ
lists_bytes D trees = encode (list_tree D (trees Certificates)) ++ (encode (list_tree D (trees Revocations)) ++ encode (list_tree D (trees Attributes)))
