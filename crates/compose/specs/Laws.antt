-- What a composed stamp is.
use Rattle.std.specs.Prelude.{◌≡◌, ◌≤◌, [], ◌∷◌, length, None}
use Rattle.der.specs.Trees.{Valid, encode}
use Rattle.model.specs.Parts.{attribute_tree, Signer}
use Rattle.model.specs.Files.{File, file_tree}
use Rattle.stamp_model.specs.Indexes.{Index, index_tree, index_bytes, IndexShape}
use Rattle.stamp_model.specs.Tokens.{Info, Token}
use Rattle.stamp_model.specs.Stamps.{Carries}
use Rattle.stamp_model.specs.Covering.{six_bytes}
use Rattle.compose.specs.Composed.{stamp_of, stamp_attribute, stamp_bytes}
use Rattle.compose.specs.Fronts.{front_bytes}
use Rattle.compose.specs.Heads.{identifier_bytes}

-- the pieces joined are the stamp's attribute, with the index in it
abbrev pub ComposedIs : Type 0
ComposedIs = (f : File) (s : Signer) (x : Index) → stamp_bytes identifier_bytes (front_bytes f) (six_bytes s) (index_bytes x) ≡ encode (attribute_tree (stamp_attribute f s x))

-- the attribute carries the stamp: the token as it was but for the index, which its signer carries
abbrev pub ComposedCarries : Type 0
ComposedCarries = (f : File) (s : Signer) (i : Info) (x : Index) → Token f s i → IndexShape x → s.unsigned ≡ None → Carries (stamp_attribute f s x) (stamp_of f s i x)

-- it is an attribute that may stand in a file: valid on level 7, if it is not too long
abbrev pub ComposedValid : Type 0
ComposedValid = (f : File) (s : Signer) (x : Index) → Valid (file_tree f) 24 → f.signers ≡ s ∷ [] → Valid (index_tree x) 16 →
    length (encode (attribute_tree (stamp_attribute f s x))) ≤ 65535 → Valid (attribute_tree (stamp_attribute f s x)) 26
