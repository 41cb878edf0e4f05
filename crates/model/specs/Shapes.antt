-- What a file's parts keep besides their form: tags that are allowed, and at least one where one has to be.
use Rattle.std.specs.Prelude.{◌≡◌, ℕ, ◌<◌, Bool, true, ◌||◌, List, [], length, Some, None, Option, ◌==◌}
use Rattle.std.specs.List.{AllByRecursion}
use Rattle.der.specs.Trees.{Tree, tag_of}
use Rattle.cms.specs.Identifiers.{time_stamp_info_id}
use Rattle.cms.specs.Records.{certificate_tags, revocation_tags}
use Rattle.cms.specs.declared.settings.SignerCount.{SignerCount}
use Rattle.cms.specs.declared.settings.SignerCount.TheVariants.{AtLeastOne, ExactlyOne, Nobody}
use Rattle.cms.specs.declared.settings.ContentForm.{ContentForm}
use Rattle.cms.specs.declared.settings.ContentForm.TheVariants.{Any, TimeStampInfo}
use Rattle.cms.specs.declared.settings.Settings.{Settings}
use Rattle.model.specs.Parts.{Attribute, Signer, Content, detached, plain, segmented}
use Rattle.model.specs.Files.{File}

abbrev pub IfThere : {M : Type 0} → (M → Type 0) → Option M → Type 0
IfThere Keeps None = Unit {0}
IfThere Keeps (Some m) = Keeps m

-- an attribute has at least one value
abbrev pub AttributeShape : Attribute → Type 0
AttributeShape a = 0 < length a.values

-- where the field of the unsigned attributes is there, it has at least one
pub record UnsignedShape (attributes : List Attribute) : Type 0 where
  pub each : AllByRecursion AttributeShape attributes
  pub least : 0 < length attributes

pub record SignerShape (s : Signer) : Type 0 where
  pub signed : AllByRecursion AttributeShape s.signed
  pub unsigned : IfThere UnsignedShape s.unsigned

abbrev pub AllowedTags : (ℕ → Bool) → List Tree → Type 0
AllowedTags tags ts = AllByRecursion (λ t. tags (tag_of t) ≡ true) ts

abbrev pub SignersShape : SignerCount → List Signer → Type 0
SignersShape AtLeastOne ss = 0 < length ss
SignersShape ExactlyOne ss = length ss ≡ 1
SignersShape Nobody ss = ss ≡ []

abbrev pub IsPlain : Content → Type 0
IsPlain detached = ⊥
IsPlain (plain bytes) = Unit {0}
IsPlain (segmented segments) = ⊥

-- content of any type and kind, or plain content of the type of time-stamp tokens
abbrev pub ContentShape : ContentForm → List ℕ → Content → Type 0
ContentShape Any content_type content = Unit {0}
ContentShape TimeStampInfo content_type content = (content_type ≡ time_stamp_info_id) × IsPlain content

abbrev pub data_version : ℕ → Bool
data_version v = v == 1 || (v == 3 || (v == 4 || v == 5))

-- the shape of a message
pub record Shape (settings : Settings) (f : File) : Type 0 where
  pub version : data_version f.version ≡ true
  pub content : ContentShape settings.content f.content_type f.content
  pub certificates : IfThere (AllowedTags certificate_tags) f.certificates
  pub revocations : IfThere (AllowedTags revocation_tags) f.revocations
  pub signers : AllByRecursion SignerShape f.signers
  pub count : SignersShape settings.signers f.signers
