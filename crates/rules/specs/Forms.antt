-- The form of a signer, and whether it names a policy.
use Rattle.std.specs.Prelude.{Bool, cond, ◌&&◌, ◌||◌, List, [], Some, None}
use Rattle.model.specs.Parts.{Attribute, Signer}
use Rattle.rules.specs.declared.kinds.AttributeKind.TheVariants.{SignaturePolicy, SignatureTimeStamp, CertificateReferences, RevocationReferences, CertificateValues, RevocationValues, CompleteTimeStamp, ReferencesTimeStamp, ArchiveStamp}
use Rattle.rules.specs.declared.kinds.Form.{Form}
use Rattle.rules.specs.declared.kinds.Form.TheVariants.{B, T, C, X, A}
use Rattle.rules.specs.Attributes.{holds}

-- the unsigned attributes; an absent field has none
abbrev pub unsigned_of : Signer → List Attribute
unsigned_of s = elim s.unsigned [ None ↦ [] | Some attributes ↦ attributes ]

-- a signature time stamp
abbrev pub is_t : List Attribute → Bool
is_t u = holds SignatureTimeStamp u

-- and references to certificates and revocations
abbrev pub is_c : List Attribute → Bool
is_c u = is_t u && (holds CertificateReferences u && holds RevocationReferences u)

-- and a time stamp on these, or the values themselves
abbrev pub is_x : List Attribute → Bool
is_x u = is_c u && (holds CompleteTimeStamp u || (holds ReferencesTimeStamp u || (holds CertificateValues u && holds RevocationValues u)))

-- an archive stamp
abbrev pub is_a : List Attribute → Bool
is_a u = holds ArchiveStamp u

-- the highest form that holds
abbrev pub form_told_by : List Attribute → Form
form_told_by u = cond (is_a u) A (cond (is_x u) X (cond (is_c u) C (cond (is_t u) T B)))

abbrev pub form_of : Signer → Form
form_of s = form_told_by (unsigned_of s)

abbrev pub has_policy_of : Signer → Bool
has_policy_of s = holds SignaturePolicy s.signed
