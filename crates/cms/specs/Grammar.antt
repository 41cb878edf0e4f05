-- The signed message, element by element: the place of the first field that is missing, wrong or surplus.
use Rattle.std.specs.Prelude.{ℕ, ◌+◌, true, cond, ◌||◌, List, [], ◌∷◌, Some, None, Option}
use Rattle.std.specs.Str.{bytes_eq}
use Rattle.der.specs.Trees.{Tree, tag_of}
use Rattle.cms.specs.declared.settings.SignerCount.{SignerCount}
use Rattle.cms.specs.declared.settings.SignerCount.TheVariants.{AtLeastOne, ExactlyOne, Nobody}
use Rattle.cms.specs.declared.settings.ContentForm.{ContentForm}
use Rattle.cms.specs.declared.settings.ContentForm.TheVariants.{Any, TimeStampInfo}
use Rattle.cms.specs.declared.settings.Settings.{Settings}
use Rattle.cms.specs.Identifiers.{signed_data_id, time_stamp_info_id}
use Rattle.fields.specs.Reads.{is}
use Rattle.cms.specs.Records.{certificate_tags, revocation_tags, octet_tags}
use Rattle.fields.specs.Rules.{parts_of, head_size, body_size, or_else, Rule, Tags, nothing, free, field, optional, list, some, choose, one}

abbrev pub any : Tags
any tag = true

-- 30: a type, 06, and a set of values, 31, at least one
abbrev pub attribute : Rule
attribute = field (is 6) free (field (is 0x31) (some any free) nothing)

-- unsigned attributes, if there are any, and nothing more
abbrev pub unsigned_attributes : Rule
unsigned_attributes = optional (is 0xa1) (some (is 0x30) attribute) nothing

-- the signature, and what follows it
abbrev pub from_signature : Rule
from_signature = field (is 0x30) free (field (is 4) free unsigned_attributes)

-- the signed attributes, and what follows them
abbrev pub from_signed : Rule
from_signed = field (is 0xa0) (list (is 0x30) attribute) from_signature

-- behind the version of a signer: its identifier, its digest algorithm, and the rest
abbrev pub signer_fields : ℕ → Rule
signer_fields tag = field (is tag) free (field (is 0x30) (field (is 6) free free) from_signed)

-- version 1 goes with an identifier tagged 30, version 3 with one tagged 80
abbrev pub by_version : List ℕ → Option Rule
by_version version = cond (one 1 version) (Some (signer_fields 0x30)) (cond (one 3 version) (Some (signer_fields 0x80)) None)

abbrev pub signer : Rule
signer = choose 2 by_version

abbrev pub signers_by : SignerCount → Rule
signers_by AtLeastOne = some (is 0x30) signer
signers_by ExactlyOne = field (is 0x30) signer nothing
signers_by Nobody = nothing

abbrev pub signers : SignerCount → Rule
signers count = field (is 0x31) (signers_by count) nothing

abbrev pub revocations : SignerCount → Rule
revocations count = optional (is 0xa1) (list revocation_tags free) (signers count)

abbrev pub certificates : SignerCount → Rule
certificates count = optional (is 0xa0) (list certificate_tags free) (revocations count)

-- content: one octet string, or one made of octet strings
abbrev pub content : Rule
content = field octet_tags (list (is 4) free) nothing

abbrev pub by_content_type : List ℕ → Option Rule
by_content_type identifier = cond (bytes_eq identifier time_stamp_info_id) (Some (field (is 0xa0) (field (is 4) free nothing) nothing)) None

abbrev pub content_info : ContentForm → Rule
content_info Any = field (is 6) free (optional (is 0xa0) content nothing)
content_info TimeStampInfo = choose 6 by_content_type

abbrev pub data_fields : Settings → Rule
data_fields settings = field (is 0x31) free (field (is 0x30) (content_info settings.content) (certificates settings.signers))

abbrev pub by_data_version : Settings → List ℕ → Option Rule
by_data_version settings version = cond (one 1 version || (one 3 version || (one 4 version || one 5 version))) (Some (data_fields settings)) None

abbrev pub signed_data : Settings → Rule
signed_data settings = choose 2 (by_data_version settings)

abbrev pub message_fields : Settings → Rule
message_fields settings = field (is 0xa0) (field (is 0x30) (signed_data settings) nothing) nothing

abbrev pub by_identifier : Settings → List ℕ → Option Rule
by_identifier settings identifier = cond (bytes_eq identifier signed_data_id) (Some (message_fields settings)) None

abbrev pub message : Settings → Rule
message settings = choose 6 (by_identifier settings)

-- a message is one element, and then come surplus bytes, which are not looked into
abbrev pub surplus_at : ℕ → List ℕ → Option ℕ
surplus_at p [] = None
surplus_at p (b ∷ bs) = Some p

-- the first break of the message that stands at `p`, if there is one
abbrev pub first_break : Settings → ℕ → Tree → List ℕ → Option ℕ
first_break settings p t surplus =
    cond (is 0x30 (tag_of t)) (or_else (message settings (p + head_size t) (parts_of t)) (surplus_at (p + head_size t + body_size t) surplus)) (Some p)
