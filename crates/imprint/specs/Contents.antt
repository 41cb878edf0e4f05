-- The content that a call reads.
use Rattle.std.specs.Prelude.{ℕ, List, Some, None, Option}
use Rattle.std.specs.Borrow.{Bor}
use Rattle.fields.specs.Placed.{mapped}
use Rattle.model.specs.Parts.{Content}
use Rattle.content.specs.Contents.{content_bytes}
use Rattle.imprint.specs.declared.fault.ContentFault.{ContentFault}
use Rattle.imprint.specs.declared.fault.ContentFault.TheVariants.{NoContent, TwoContents}

-- the bytes of the source that is given, if one is
abbrev pub given_bytes : {S : Type 0} → (S → List ℕ) → Option (Bor S) → Option (List ℕ)
given_bytes bytes given = mapped (λ s. bytes s.now) given

-- the file's own content or the given one, where just one of them is there
abbrev pub chosen : Option (List ℕ) → Option (List ℕ) → Option (List ℕ)
chosen None given = given
chosen (Some own) None = Some own
chosen (Some own) (Some given) = None

-- the content that a call reads: the file's own, or the given one exactly when the file is detached; none where they do not suit
abbrev pub content_for : Content → Option (List ℕ) → Option (List ℕ)
content_for content given = chosen (content_bytes content) given

-- why they do not suit: with none given there is no content at all, else there are two
abbrev pub unsuited : Option (List ℕ) → ContentFault
unsuited None = NoContent
unsuited (Some given) = TwoContents
