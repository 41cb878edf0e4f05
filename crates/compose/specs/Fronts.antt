-- The front of signed data: all that stands before the signers.
use Rattle.std.specs.Prelude.{ℕ, List, [], ◌∷◌, ◌++◌, Some, None, Option}
use Rattle.der.specs.Trees.{Tree, leaf, node, encodes}
use Rattle.model.specs.Parts.{row}
use Rattle.model.specs.Files.{File, content_info_tree, certificates_tree, revocations_tree}

-- a field that may be there, as a list
abbrev pub if_there : {M : Type 0} → (M → Tree) → Option M → List Tree
if_there tree None = []
if_there tree (Some m) = tree m ∷ []

abbrev pub front_trees : File → List Tree
front_trees f =
    leaf 2 (f.version ∷ []) ∷ node 0x31 f.digests ∷ content_info_tree f
    ∷ (if_there certificates_tree f.certificates ++ if_there revocations_tree f.revocations)

unfoldable pub front_bytes : File → List ℕ
front_bytes f = encodes (row (front_trees f))
