-- The bytes of a plain source, and when one is made.
use Rattle.std.specs.Prelude.{◌≡◌, ℕ, ◌<◌, ◌≤◌, List, length, take, Result, MatchResult}
use Rattle.digest.specs.declared.plain.Plain.{Plain}
use Rattle.digest.specs.declared.refusal.Refusal.{Refusal}
use Rattle.digest.specs.declared.refusal.Refusal.TheVariants.{LongSource}

-- the bytes that a plain source stands for: those that it borrows, up to the most that a source has
abbrev pub bytes_of : Plain → List ℕ
bytes_of source = take 8388608 source.bytes.now

-- a source that stands for just these bytes, or the refusal where they are too many
abbrev pub Made : List ℕ → Result Plain Refusal → Type 0
Made bytes r =
    MatchResult r
    (λ source. (length bytes ≤ 8388608) × (bytes_of source ≡ bytes))
    (λ refusal. (8388608 < length bytes) × (refusal ≡ LongSource))
