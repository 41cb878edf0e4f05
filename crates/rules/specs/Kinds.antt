-- The identifiers of attribute types, and on which side each may stand.
use Rattle.std.specs.Prelude.{ℕ, List, [], ◌∷◌, ◌++◌}
use Rattle.rules.specs.declared.kinds.AttributeKind.{AttributeKind}
use Rattle.rules.specs.declared.kinds.AttributeKind.TheVariants.{ContentType, MessageDigest, SigningCertificate, SigningCertificateV2, SignaturePolicy, SignatureTimeStamp, CertificateReferences, RevocationReferences, CertificateValues, RevocationValues, CompleteTimeStamp, ReferencesTimeStamp, ArchiveStamp}

-- 1.2.840.113549.1.9, under which the first attribute types stand
abbrev pkcs9 : List ℕ
pkcs9 = 0x2a ∷ 0x86 ∷ 0x48 ∷ 0x86 ∷ 0xf7 ∷ 0x0d ∷ 0x01 ∷ 0x09 ∷ []

-- 1.2.840.113549.1.9.16.2, under which those of signed messages stand
abbrev smime : ℕ → List ℕ
smime n = pkcs9 ++ (0x10 ∷ 0x02 ∷ n ∷ [])

-- the contents of the identifier of each type
abbrev pub kind_bytes : AttributeKind → List ℕ
kind_bytes ContentType = pkcs9 ++ (0x03 ∷ [])
kind_bytes MessageDigest = pkcs9 ++ (0x04 ∷ [])
kind_bytes SigningCertificate = smime 0x0c
kind_bytes SigningCertificateV2 = smime 0x2f
kind_bytes SignaturePolicy = smime 0x0f
kind_bytes SignatureTimeStamp = smime 0x0e
kind_bytes CertificateReferences = smime 0x15
kind_bytes RevocationReferences = smime 0x16
kind_bytes CertificateValues = smime 0x17
kind_bytes RevocationValues = smime 0x18
kind_bytes CompleteTimeStamp = smime 0x19
kind_bytes ReferencesTimeStamp = smime 0x1a
kind_bytes ArchiveStamp = 0x04 ∷ 0x00 ∷ 0x8d ∷ 0x45 ∷ 0x02 ∷ 0x04 ∷ []

-- the types that stand only among signed attributes, each at most once
abbrev pub signed_kinds : List AttributeKind
signed_kinds = ContentType ∷ MessageDigest ∷ SigningCertificate ∷ SigningCertificateV2 ∷ SignaturePolicy ∷ []

-- the types that stand only among unsigned attributes
abbrev pub unsigned_kinds : List AttributeKind
unsigned_kinds =
    SignatureTimeStamp ∷ CertificateReferences ∷ RevocationReferences ∷ CertificateValues ∷ RevocationValues
    ∷ CompleteTimeStamp ∷ ReferencesTimeStamp ∷ ArchiveStamp ∷ []
