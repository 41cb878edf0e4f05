-- A stamp composed of a token without unsigned attributes and an index.
use Rattle.std.specs.Prelude.{ℕ, List, [], ◌∷◌, ◌++◌, Some}
use Rattle.der.specs.Trees.{leaf, framed, encode}
use Rattle.model.specs.Parts.{Attribute, Signer}
use Rattle.model.specs.Files.{File, file_tree}
use Rattle.rules.specs.Kinds.{kind_bytes}
use Rattle.rules.specs.declared.kinds.AttributeKind.TheVariants.{ArchiveStamp}
use Rattle.stamp_model.specs.Indexes.{Index}
use Rattle.stamp_model.specs.Tokens.{Info}
use Rattle.stamp_model.specs.Stamps.{index_kind, carrying, Stamp}

-- the signer with an index as its one unsigned attribute
abbrev pub signer_with : Index → Signer → Signer
signer_with x s = record {
  identifier = s.identifier;
  digest = s.digest;
  signed = s.signed;
  algorithm = s.algorithm;
  signature = s.signature;
  unsigned = Some (carrying x ∷ []);
}

-- the token with this signer in place of its own
abbrev pub token_with : File → Signer → File
token_with f s = record {
  version = f.version;
  digests = f.digests;
  content_type = f.content_type;
  content = f.content;
  certificates = f.certificates;
  revocations = f.revocations;
  signers = s ∷ [];
}

-- the stamp that a token and an index make
abbrev pub stamp_of : File → Signer → Info → Index → Stamp
stamp_of f s i x = record { token = token_with f (signer_with x s); signer = signer_with x s; info = i; index = x }

-- and its attribute
abbrev pub stamp_attribute : File → Signer → Index → Attribute
stamp_attribute f s x = record { kind = kind_bytes ArchiveStamp; values = file_tree (token_with f (signer_with x s)) ∷ [] }

-- the elements of the two types
unfoldable pub stamp_type : List ℕ
stamp_type = encode (leaf 6 (kind_bytes ArchiveStamp))

unfoldable pub index_type : List ℕ
index_type = encode (leaf 6 index_kind)

-- what the index is put into, from inside out: each element ends where the index ends
unfoldable pub set_bytes : List ℕ → List ℕ
set_bytes index = framed 0x31 index

unfoldable pub carrier_bytes : List ℕ → List ℕ
carrier_bytes index = framed 0x30 (index_type ++ set_bytes index)

unfoldable pub unsigned_bytes : List ℕ → List ℕ
unsigned_bytes index = framed 0xa1 (carrier_bytes index)

-- behind the six fields of the signer
unfoldable pub signer_bytes : List ℕ → List ℕ → List ℕ
signer_bytes six index = framed 0x30 (six ++ unsigned_bytes index)

unfoldable pub signers_bytes : List ℕ → List ℕ → List ℕ
signers_bytes six index = framed 0x31 (signer_bytes six index)

-- behind the front of the signed data
unfoldable pub data_bytes : List ℕ → List ℕ → List ℕ → List ℕ
data_bytes front six index = framed 0x30 (front ++ signers_bytes six index)

unfoldable pub field_bytes : List ℕ → List ℕ → List ℕ → List ℕ
field_bytes front six index = framed 0xa0 (data_bytes front six index)

-- behind the identifier of the message
unfoldable pub message_bytes : List ℕ → List ℕ → List ℕ → List ℕ → List ℕ
message_bytes identifier front six index = framed 0x30 (identifier ++ field_bytes front six index)

unfoldable pub values_bytes : List ℕ → List ℕ → List ℕ → List ℕ → List ℕ
values_bytes identifier front six index = framed 0x31 (message_bytes identifier front six index)

unfoldable pub stamp_bytes : List ℕ → List ℕ → List ℕ → List ℕ → List ℕ
stamp_bytes identifier front six index = framed 0x30 (stamp_type ++ values_bytes identifier front six index)
