-- The composed bytes are the encoding of the stamp's attribute.
use Rattle.std.proofs.Common.{◌≡◌, ℕ, List, [], ◌∷◌, ◌++◌, Some, None, Option, sym, refl, ap, ◌∙◌}
use Rattle.std.proofs.lemmas.List.{append-nil, append_assoc}
use Rattle.der.specs.Trees.{Tree, leaf, node, Forest, none, more, framed, encode, encodes}
use Rattle.model.specs.Parts.{row, maybe, attribute_tree, Signer, signer_tree, unsigned_tree}
use Rattle.model.specs.Files.{File, content_info_tree, certificates_tree, revocations_tree, signers_tree, signed_data_tree, file_tree}
use Rattle.message.proofs.SignerParts.{before, six_trees}
use Rattle.stamp_model.specs.Indexes.{Index, index_bytes}
use Rattle.stamp_model.specs.Stamps.{carrying}
use Rattle.stamp_model.specs.Covering.{six_bytes}
use Rattle.compose.specs.Composed.{signer_with, token_with, stamp_attribute, index_type, set_bytes, carrier_bytes, unsigned_bytes, signer_bytes, signers_bytes, data_bytes, field_bytes, message_bytes, values_bytes, stamp_type, stamp_bytes}
use Rattle.compose.specs.Fronts.{if_there, front_trees, front_bytes}
use Rattle.compose.specs.Heads.{identifier_bytes}
use Rattle.compose.specs.Laws.{ComposedIs}

-- trees before others, as bytes
pub encodes_before : (ts : List Tree) (rest : Forest) → encodes (before ts rest) ≡ encodes (row ts) ++ encodes rest
encodes_before [] rest = refl
encodes_before (t ∷ ts) rest = ap (λ (y : List ℕ). encode t ++ y) (encodes_before ts rest) ∙ sym (append_assoc (encode t) (encodes (row ts)) (encodes rest))

-- one tree alone
alone : (t : Tree) → encodes (more t none) ≡ encode t
alone t = append-nil (encode t)

-- the front, and what follows it
pub front_before : (f : File) (rest : Forest) →
    before (front_trees f) rest
    ≡ more (leaf 2 (f.version ∷ [])) (more (node 0x31 f.digests) (more (content_info_tree f) (maybe certificates_tree f.certificates (maybe revocations_tree f.revocations rest))))
front_before f rest = ap (λ (y : Forest). more (leaf 2 (f.version ∷ [])) (more (node 0x31 f.digests) (more (content_info_tree f) y))) (lists f.certificates f.revocations)
  where
    lists : (cs rs : Option (List Tree)) → before (if_there certificates_tree cs ++ if_there revocations_tree rs) rest ≡ maybe certificates_tree cs (maybe revocations_tree rs rest)
    lists None None = refl
    lists None (Some rs) = refl
    lists (Some cs) None = refl
    lists (Some cs) (Some rs) = refl

module _ (f : File) (s : Signer) (x : Index) where
  abbrev ix : List ℕ
  ix = index_bytes x

  abbrev six : List ℕ
  six = six_bytes s

  carrier_is : carrier_bytes ix ≡ encode (attribute_tree (carrying x))
  unfolding carrier_bytes set_bytes index_type
  carrier_is = sym (ap (λ (y : List ℕ). framed 0x30 (index_type ++ y)) (append-nil (framed 0x31 (ix ++ [])) ∙ ap (framed 0x31) (append-nil ix)))

  unsigned_is : unsigned_bytes ix ≡ encode (unsigned_tree (carrying x ∷ []))
  unfolding unsigned_bytes
  unsigned_is = ap (framed 0xa1) (carrier_is ∙ sym (alone (attribute_tree (carrying x))))

  signer_is : signer_bytes six ix ≡ encode (signer_tree (signer_with x s))
  unfolding signer_bytes
  signer_is =
      ap (λ (y : List ℕ). framed 0x30 (six ++ y)) (unsigned_is ∙ sym (alone (unsigned_tree (carrying x ∷ []))))
      ∙ ap (framed 0x30) (sym (encodes_before (six_trees s) (more (unsigned_tree (carrying x ∷ [])) none)))

  abbrev token : File
  token = token_with f (signer_with x s)

  signers_is : signers_bytes six ix ≡ encode (signers_tree token)
  unfolding signers_bytes
  signers_is = ap (framed 0x31) (signer_is ∙ sym (alone (signer_tree (signer_with x s))))

  data_is : data_bytes (front_bytes f) six ix ≡ encode (signed_data_tree token)
  unfolding data_bytes front_bytes
  data_is =
      ap (λ (y : List ℕ). framed 0x30 (front_bytes f ++ y)) (signers_is ∙ sym (alone (signers_tree token)))
      ∙ ap (framed 0x30) (sym (encodes_before (front_trees f) (more (signers_tree token) none)) ∙ ap encodes (front_before f (more (signers_tree token) none)))

  field_is : field_bytes (front_bytes f) six ix ≡ encode (node 0xa0 (more (signed_data_tree token) none))
  unfolding field_bytes
  field_is = ap (framed 0xa0) (data_is ∙ sym (alone (signed_data_tree token)))

  message_is : message_bytes identifier_bytes (front_bytes f) six ix ≡ encode (file_tree token)
  unfolding message_bytes
  message_is = ap (λ (y : List ℕ). framed 0x30 (identifier_bytes ++ y)) (field_is ∙ sym (alone (node 0xa0 (more (signed_data_tree token) none))))

  values_is : values_bytes identifier_bytes (front_bytes f) six ix ≡ encode (node 0x31 (row (file_tree token ∷ [])))
  unfolding values_bytes
  values_is = ap (framed 0x31) (message_is ∙ sym (alone (file_tree token)))

  stamp_is : stamp_bytes identifier_bytes (front_bytes f) six ix ≡ encode (attribute_tree (stamp_attribute f s x))
  unfolding stamp_bytes stamp_type
  stamp_is = ap (λ (y : List ℕ). framed 0x30 (stamp_type ++ y)) (values_is ∙ sym (alone (node 0x31 (row (file_tree token ∷ [])))))

pub composed_is : ComposedIs
composed_is f s x = stamp_is f s x
