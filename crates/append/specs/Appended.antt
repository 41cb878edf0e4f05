-- Files with more elements at the end of one of their lists.
use Rattle.std.specs.Prelude.{ℕ, zero, suc, List, [], ◌∷◌, ◌++◌, Some, Option}
use Rattle.der.specs.Trees.{Tree, encodes}
pub use Rattle.model.specs.Parts.{given}
use Rattle.model.specs.Parts.{Attribute, attribute_tree, row, row_of, Signer}
use Rattle.model.specs.Files.{File}

-- a list with new elements behind the old ones; then it is there
abbrev pub longer : {M : Type 0} → List M → Option (List M) → Option (List M)
longer new old = Some (given old ++ new)

abbrev pub with_certificates : List Tree → File → File
with_certificates new f = record {
  version = f.version;
  digests = f.digests;
  content_type = f.content_type;
  content = f.content;
  certificates = longer new f.certificates;
  revocations = f.revocations;
  signers = f.signers;
}

abbrev pub with_revocations : List Tree → File → File
with_revocations new f = record {
  version = f.version;
  digests = f.digests;
  content_type = f.content_type;
  content = f.content;
  certificates = f.certificates;
  revocations = longer new f.revocations;
  signers = f.signers;
}

-- a signer with more unsigned attributes
abbrev pub signer_with : List Attribute → Signer → Signer
signer_with new s = record {
  identifier = s.identifier;
  digest = s.digest;
  signed = s.signed;
  algorithm = s.algorithm;
  signature = s.signature;
  unsigned = longer new s.unsigned;
}

-- of signer number n alone; a number that is not there changes nothing
abbrev pub signers_with : ℕ → List Attribute → List Signer → List Signer
signers_with n new [] = []
signers_with zero new (s ∷ ss) = signer_with new s ∷ ss
signers_with (suc n) new (s ∷ ss) = s ∷ signers_with n new ss

abbrev pub with_attributes : ℕ → List Attribute → File → File
with_attributes n new f = record {
  version = f.version;
  digests = f.digests;
  content_type = f.content_type;
  content = f.content;
  certificates = f.certificates;
  revocations = f.revocations;
  signers = signers_with n new f.signers;
}

-- what is appended to a file: elements of one list, the attributes to signer number n
pub data Addition : Type 0 where
  certificates : List Tree → Addition
  revocations : List Tree → Addition
  attributes : ℕ → List Attribute → Addition

abbrev pub with_more : Addition → File → File
with_more (certificates new) f = with_certificates new f
with_more (revocations new) f = with_revocations new f
with_more (attributes n new) f = with_attributes n new f

-- its bytes, one element behind another
abbrev pub addition_bytes : Addition → List ℕ
addition_bytes (certificates new) = encodes (row new)
addition_bytes (revocations new) = encodes (row new)
addition_bytes (attributes n new) = encodes (row_of attribute_tree new)
