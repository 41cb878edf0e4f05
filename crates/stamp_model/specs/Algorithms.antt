-- The name of a digest, as an index and an imprint field carry it.
use Rattle.std.specs.Prelude.{ℕ, Bool, true, false, List, [], ◌∷◌}
use Rattle.der.specs.Trees.{Tree, leaf, node, Forest, none, more}

-- the contents of its identifier, and whether the empty parameters 05 00 follow it
pub record Algorithm : Type 0 where
  pub name : List ℕ
  pub null : Bool

abbrev pub null_part : Bool → Forest
null_part true = more (leaf 5 []) none
null_part false = none

abbrev pub algorithm_tree : Algorithm → Tree
algorithm_tree a = node 0x30 (more (leaf 6 a.name) (null_part a.null))

-- the name of SHA-256
abbrev pub sha256_name : List ℕ
sha256_name = 0x60 ∷ 0x86 ∷ 0x48 ∷ 0x01 ∷ 0x65 ∷ 0x03 ∷ 0x04 ∷ 0x02 ∷ 0x01 ∷ []
