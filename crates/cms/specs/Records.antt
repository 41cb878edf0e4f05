-- The records of a message, field by field, as they are read from its bytes.
use Rattle.std.specs.Prelude.{ℕ, Bool, cond, ◌||◌, List, Some, None, Ok, Err, Option, Result, ◌==◌}
use Rattle.der.specs.declared.span.Span.{Span}
use Rattle.fields.specs.declared.located.Entries.{Entries}
use Rattle.cms.specs.declared.located.Attribute.{Attribute}
use Rattle.cms.specs.declared.located.Signer.{Signer}
use Rattle.cms.specs.declared.located.Content.{Content}
use Rattle.cms.specs.declared.located.Content.TheVariants.{Detached, Plain, Segmented}
use Rattle.cms.specs.declared.located.ContentInfo.{ContentInfo}
use Rattle.cms.specs.declared.located.Message.{Message}
use Rattle.cms.specs.declared.settings.SignerCount.{SignerCount}
use Rattle.cms.specs.declared.settings.SignerCount.TheVariants.{AtLeastOne, ExactlyOne, Nobody}
use Rattle.cms.specs.declared.settings.ContentForm.{ContentForm}
use Rattle.cms.specs.declared.settings.ContentForm.TheVariants.{Any, TimeStampInfo}
use Rattle.cms.specs.declared.settings.Settings.{Settings}
use Rattle.cms.specs.Identifiers.{signed_data_id, time_stamp_info_id}
use Rattle.fields.specs.Reads.{◌>>=◌, ◌>>◌, Reading, any_of, allowed_of, expect_of, optional_of, number_of, named_of, finish_of, list_of, some_of, list_field, maybe_list, maybe_of, behind, entries_in, entries_stop, span_stop}

-- the tags of certificates and of revocation entries
abbrev pub certificate_tags : ℕ → Bool
certificate_tags tag = tag == 0x30 || (tag == 0xa0 || (tag == 0xa1 || (tag == 0xa2 || tag == 0xa3)))

abbrev pub revocation_tags : ℕ → Bool
revocation_tags tag = tag == 0x30 || tag == 0xa1

-- the tags of content: plain, segmented
abbrev pub octet_tags : ℕ → Bool
octet_tags tag = tag == 4 || tag == 0x24

-- the contents of the attribute `whole`
abbrev pub attribute_in : List ℕ → Span → Result Attribute ℕ
attribute_in file whole = do
  kind ← expect_of 6 file whole.body whole.end
  field ← expect_of 0x31 file kind.end whole.end
  values ← entries_in (some_of any_of) file field
  finish_of field.end whole.end
  Ok (record { whole = whole; kind = kind; values = values })

abbrev pub attribute_of : List ℕ → ℕ → ℕ → Result Attribute ℕ
attribute_of file at end = expect_of 0x30 file at end >>= attribute_in file

abbrev pub attribute_stop : Attribute → ℕ
attribute_stop a = a.whole.end

-- an attribute, as one element of a list
abbrev pub attribute_entry : Reading
attribute_entry file at end = attribute_of file at end >>= (λ a. Ok a.whole)

-- the tag of the signer identifier that goes with a version, which stands at `place`
abbrev pub identifier_tag_of : ℕ → ℕ → Result ℕ ℕ
identifier_tag_of place version = cond (version == 1) (Ok 0x30) (cond (version == 3) (Ok 0x80) (Err place))

-- an algorithm: it begins with an identifier
abbrev pub algorithm_of : List ℕ → ℕ → ℕ → Result Span ℕ
algorithm_of file at end = do
  whole ← expect_of 0x30 file at end
  expect_of 6 file whole.body whole.end
  Ok whole

abbrev pub signed_of : List ℕ → ℕ → ℕ → Result Entries ℕ
signed_of = list_field 0xa0 attribute_entry

abbrev pub unsigned_of : List ℕ → ℕ → ℕ → Result (Option Entries) ℕ
unsigned_of file at end = maybe_of (entries_in (some_of attribute_entry) file) (optional_of 0xa1 file at end)

-- the contents of the signer `whole`
abbrev pub signer_in : List ℕ → Span → Result Signer ℕ
signer_in file whole = do
  version ← number_of file whole.body whole.end
  tag ← identifier_tag_of whole.body version.value
  identifier ← expect_of tag file version.element.end whole.end
  digest ← algorithm_of file identifier.end whole.end
  signed ← signed_of file digest.end whole.end
  algorithm ← expect_of 0x30 file signed.field.end whole.end
  signature ← expect_of 4 file algorithm.end whole.end
  unsigned ← unsigned_of file signature.end whole.end
  finish_of (behind entries_stop signature.end unsigned) whole.end
  Ok (record {
    whole = whole;
    version = version.element;
    identifier = identifier;
    digest = digest;
    signed = signed;
    algorithm = algorithm;
    signature = signature;
    unsigned = unsigned;
  })

abbrev pub signer_of : List ℕ → ℕ → ℕ → Result Signer ℕ
signer_of file at end = expect_of 0x30 file at end >>= signer_in file

abbrev pub signer_stop : Signer → ℕ
signer_stop s = s.whole.end

-- a signer, as one element of a list
abbrev pub signer_entry : Reading
signer_entry file at end = signer_of file at end >>= (λ s. Ok s.whole)

-- the signers in their field, as many as the setting wants
abbrev pub signers_in : SignerCount → List ℕ → ℕ → ℕ → Result ℕ ℕ
signers_in AtLeastOne file at end = some_of signer_entry file at end
signers_in ExactlyOne file at end = do
  signer ← signer_entry file at end
  finish_of signer.end end
  Ok 1
signers_in Nobody file at end = do
  finish_of at end
  Ok 0

abbrev pub certificates_of : List ℕ → ℕ → ℕ → Result (Option Entries) ℕ
certificates_of = maybe_list 0xa0 (allowed_of certificate_tags)

abbrev pub revocations_of : List ℕ → ℕ → ℕ → Result (Option Entries) ℕ
revocations_of = maybe_list 0xa1 (allowed_of revocation_tags)

-- plain content, or segments
abbrev pub octets_in : List ℕ → Span → Span → Result Content ℕ
octets_in file field octets =
    cond (octets.tag == 4) (Ok (Plain field octets))
    (entries_in (list_of (expect_of 4)) file octets >>= (λ segments. Ok (Segmented field segments)))

-- the contents of the field around the content
abbrev pub content_in : List ℕ → Span → Result Content ℕ
content_in file field = do
  octets ← allowed_of octet_tags file field.body field.end
  content ← octets_in file field octets
  finish_of octets.end field.end
  Ok content

abbrev pub or_detached : Option Content → Content
or_detached None = Detached
or_detached (Some c) = c

-- one octet string in its field, and nothing more
abbrev pub plain_in : List ℕ → Span → Result Span ℕ
plain_in file field = do
  octets ← expect_of 4 file field.body field.end
  finish_of octets.end field.end
  Ok octets

-- the contents of the content info `whole`
abbrev pub info_in : ContentForm → List ℕ → Span → Result ContentInfo ℕ
info_in Any file whole = do
  kind ← expect_of 6 file whole.body whole.end
  content ← maybe_of (content_in file) (optional_of 0xa0 file kind.end whole.end)
  finish_of (behind span_stop kind.end (optional_of 0xa0 file kind.end whole.end)) whole.end
  Ok (record { whole = whole; kind = kind; content = or_detached content })
info_in TimeStampInfo file whole = do
  kind ← named_of time_stamp_info_id file whole.body whole.end
  field ← expect_of 0xa0 file kind.end whole.end
  octets ← plain_in file field
  finish_of field.end whole.end
  Ok (record { whole = whole; kind = kind; content = Plain field octets })

abbrev pub info_of : ContentForm → List ℕ → ℕ → ℕ → Result ContentInfo ℕ
info_of form file at end = expect_of 0x30 file at end >>= info_in form file

abbrev pub info_stop : ContentInfo → ℕ
info_stop info = info.whole.end

abbrev pub version_of : ℕ → ℕ → Result (Unit {0}) ℕ
version_of place v = cond (v == 1 || (v == 3 || (v == 4 || v == 5))) (Ok tt) (Err place)

-- the contents of the signed data `whole`
abbrev pub data_in : Settings → List ℕ → Span → Result Message ℕ
data_in settings file whole = do
  version ← number_of file whole.body whole.end
  version_of whole.body version.value
  digests ← expect_of 0x31 file version.element.end whole.end
  info ← info_of settings.content file digests.end whole.end
  certificates ← certificates_of file info.whole.end whole.end
  revocations ← revocations_of file (behind entries_stop info.whole.end certificates) whole.end
  field ← expect_of 0x31 file (behind entries_stop (behind entries_stop info.whole.end certificates) revocations) whole.end
  signers ← entries_in (signers_in settings.signers) file field
  finish_of field.end whole.end
  Ok (record {
    whole = whole;
    version = version.element;
    digests = digests;
    info = info;
    certificates = certificates;
    revocations = revocations;
    signers = signers;
  })

-- the contents of the field around the signed data
abbrev pub signed_data_in : Settings → List ℕ → Span → Result Message ℕ
signed_data_in settings file field = do
  signed ← expect_of 0x30 file field.body field.end
  message ← data_in settings file signed
  finish_of signed.end field.end
  Ok message

-- the contents of the message `whole`
abbrev pub message_in : Settings → List ℕ → Span → Result Message ℕ
message_in settings file whole = do
  identifier ← named_of signed_data_id file whole.body whole.end
  field ← expect_of 0xa0 file identifier.end whole.end
  message ← signed_data_in settings file field
  finish_of field.end whole.end
  Ok message

-- the message that stands from `at` to `end`, and nothing behind it
abbrev pub message_of : Settings → List ℕ → ℕ → ℕ → Result Message ℕ
message_of settings file at end = do
  whole ← expect_of 0x30 file at end
  message ← message_in settings file whole
  finish_of whole.end end
  Ok message
