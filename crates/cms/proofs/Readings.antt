-- What a reading that gives a record has passed, step by step.
use Rattle.std.proofs.Common.{◌≡◌, ℕ, List, Ok, Option, refl}
use Rattle.der.specs.declared.span.Span.{Span}
use Rattle.fields.specs.declared.located.Number.{Number}
use Rattle.fields.specs.declared.located.Entries.{Entries}
use Rattle.cms.specs.declared.located.Attribute.{Attribute}
use Rattle.cms.specs.declared.located.Signer.{Signer}
use Rattle.cms.specs.declared.located.Content.{Content}
use Rattle.cms.specs.declared.located.Content.TheVariants.{Plain}
use Rattle.cms.specs.declared.located.ContentInfo.{ContentInfo}
use Rattle.cms.specs.declared.settings.ContentForm.{ContentForm}
use Rattle.cms.specs.declared.settings.ContentForm.TheVariants.{Any, TimeStampInfo}
use Rattle.cms.specs.Identifiers.{time_stamp_info_id}
use Rattle.fields.specs.Reads.{any_of, expect_of, optional_of, number_of, named_of, finish_of, some_of, maybe_of, behind, span_stop, entries_in, entries_stop}
use Rattle.cms.specs.Records.{attribute_in, identifier_tag_of, algorithm_of, signed_of, unsigned_of, signer_in, content_in, or_detached, plain_in, info_in}
use Rattle.fields.proofs.Steps.{Gives, gives_then, gives_ok}

pub record AttributeRead (file : List ℕ) (whole : Span) (a : Attribute) : Type 0 where
  pub same : a.whole ≡ whole
  pub kind : expect_of 6 file whole.body whole.end ≡ Ok a.kind
  pub set : Span
  pub found : expect_of 0x31 file a.kind.end whole.end ≡ Ok set
  pub values : entries_in (some_of any_of) file set ≡ Ok a.values
  pub done : finish_of set.end whole.end ≡ Ok tt

pub attribute_read : (file : List ℕ) (whole : Span) → Gives (AttributeRead file whole) (attribute_in file whole)
attribute_read file whole =
    gives_then _ _ _ (λ kind q₁. gives_then _ _ _ (λ set q₂. gives_then _ _ _ (λ values q₃. gives_then _ _ _ (λ _ q₄. gives_ok _ _ (record {
      same = refl;
      kind = q₁;
      set = set;
      found = q₂;
      values = q₃;
      done = q₄;
    })))))

pub record SignerRead (file : List ℕ) (whole : Span) (s : Signer) : Type 0 where
  pub same : s.whole ≡ whole
  pub number : Number
  pub version : number_of file whole.body whole.end ≡ Ok number
  pub version_is : s.version ≡ number.element
  pub tag : ℕ
  pub chosen : identifier_tag_of whole.body number.value ≡ Ok tag
  pub identifier : expect_of tag file number.element.end whole.end ≡ Ok s.identifier
  pub digest : algorithm_of file s.identifier.end whole.end ≡ Ok s.digest
  pub signed : signed_of file s.digest.end whole.end ≡ Ok s.signed
  pub algorithm : expect_of 0x30 file s.signed.field.end whole.end ≡ Ok s.algorithm
  pub signature : expect_of 4 file s.algorithm.end whole.end ≡ Ok s.signature
  pub unsigned : unsigned_of file s.signature.end whole.end ≡ Ok s.unsigned
  pub done : finish_of (behind entries_stop s.signature.end s.unsigned) whole.end ≡ Ok tt

pub signer_read : (file : List ℕ) (whole : Span) → Gives (SignerRead file whole) (signer_in file whole)
signer_read file whole =
    gives_then _ _ _ (λ (number : Number) q₁. gives_then _ _ _ (λ tag q₂. gives_then _ _ _ (λ identifier q₃. gives_then _ _ _ (λ digest q₄. gives_then _ _ _ (λ (signed : Entries) q₅.
    gives_then _ _ _ (λ algorithm q₆. gives_then _ _ _ (λ signature q₇. gives_then _ _ _ (λ unsigned q₈. gives_then _ _ _ (λ _ q₉. gives_ok _ _ (record {
      same = refl;
      number = number;
      version = q₁;
      version_is = refl;
      tag = tag;
      chosen = q₂;
      identifier = q₃;
      digest = q₄;
      signed = q₅;
      algorithm = q₆;
      signature = q₇;
      unsigned = q₈;
      done = q₉;
    }))))))))))

pub record InfoRead (file : List ℕ) (whole : Span) (info : ContentInfo) : Type 0 where
  pub same : info.whole ≡ whole
  pub kind : expect_of 6 file whole.body whole.end ≡ Ok info.kind
  pub found : Option Content
  pub content : maybe_of (content_in file) (optional_of 0xa0 file info.kind.end whole.end) ≡ Ok found
  pub content_is : info.content ≡ or_detached found
  pub done : finish_of (behind span_stop info.kind.end (optional_of 0xa0 file info.kind.end whole.end)) whole.end ≡ Ok tt

pub info_read : (file : List ℕ) (whole : Span) → Gives (InfoRead file whole) (info_in Any file whole)
info_read file whole =
    gives_then _ _ _ (λ kind q₁. gives_then _ _ _ (λ found q₂. gives_then _ _ _ (λ _ q₃. gives_ok _ _ (record {
      same = refl;
      kind = q₁;
      found = found;
      content = q₂;
      content_is = refl;
      done = q₃;
    }))))

pub record StampInfoRead (file : List ℕ) (whole : Span) (info : ContentInfo) : Type 0 where
  pub same : info.whole ≡ whole
  pub kind : named_of time_stamp_info_id file whole.body whole.end ≡ Ok info.kind
  pub field : Span
  pub found : expect_of 0xa0 file info.kind.end whole.end ≡ Ok field
  pub octets : Span
  pub plain : plain_in file field ≡ Ok octets
  pub content_is : info.content ≡ Plain field octets
  pub done : finish_of field.end whole.end ≡ Ok tt

pub stamp_info_read : (file : List ℕ) (whole : Span) → Gives (StampInfoRead file whole) (info_in TimeStampInfo file whole)
stamp_info_read file whole =
    gives_then _ _ _ (λ kind q₁. gives_then _ _ _ (λ (field : Span) q₂. gives_then _ _ _ (λ octets q₃. gives_then _ _ _ (λ _ q₄. gives_ok _ _ (record {
      same = refl;
      kind = q₁;
      field = field;
      found = q₂;
      octets = octets;
      plain = q₃;
      content_is = refl;
      done = q₄;
    })))))

pub info_whole : (form : ContentForm) (file : List ℕ) (whole : Span) (info : ContentInfo) → info_in form file whole ≡ Ok info → info.whole ≡ whole
info_whole Any file whole info q = ((info_read file whole).holds info q).same
info_whole TimeStampInfo file whole info q = ((stamp_info_read file whole).holds info q).same
