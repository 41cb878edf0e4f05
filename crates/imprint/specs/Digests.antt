-- The digest of a content.
use Rattle.std.specs.Prelude.{◌≡◌, ℕ, List, take, Some, None, Err, Option, Result, MatchResult}
use Rattle.content.specs.Sources.{TooMany}
use Rattle.imprint.specs.declared.digests.ContentDigest.{ContentDigest}
use Rattle.imprint.specs.declared.fault.ContentFault.{ContentFault}
use Rattle.imprint.specs.declared.fault.ContentFault.TheVariants.{LongContent}
use Rattle.imprint.specs.Contents.{chosen, unsuited}

-- the bytes of a digest that is kept
abbrev pub digest_bytes_of : ContentDigest → List ℕ
digest_bytes_of d = take d.width d.bytes

-- the answer is D of the content that is read, or why none is
abbrev pub Digests : (List ℕ → List ℕ) → Option (List ℕ) → Option (List ℕ) → Result ContentDigest ContentFault → Type 0
Digests D (Some content) given r = MatchResult r (λ d. digest_bytes_of d ≡ D content) (λ _. ⊥)
Digests D None given r = r ≡ Err (unsuited given)

-- the same of what lies where the content of a file is due; too many bytes for a source are told first
pub record DigestsIn (D : List ℕ → List ℕ) (own given : Option (List ℕ)) (r : Result ContentDigest ContentFault) : Type 0 where
  pub few : (TooMany own → ⊥) → Digests D (chosen own given) given r
  pub long : TooMany own → r ≡ Err LongContent
