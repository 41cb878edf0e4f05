-- What the sources of a file's content stand for, and when one is made.
use Rattle.std.specs.Prelude.{◌≡◌, ℕ, ◌<◌, ◌≤◌, List, length, take, Some, None, Option, Result, MatchResult}
use Rattle.fields.specs.Placed.{mapped}
use Rattle.digest.specs.Plains.{bytes_of as plainBytes}
use Rattle.digest.specs.declared.refusal.Refusal.{Refusal}
use Rattle.digest.specs.declared.refusal.Refusal.TheVariants.{LongSource}
use Rattle.content.specs.declared.segmented.Segmented.{Segmented}
use Rattle.content.specs.declared.contents.FileContent.{FileContent}
use Rattle.content.specs.declared.contents.FileContent.TheVariants.{Plain as PlainContent, Segmented as SegmentedContent}
use Rattle.content.specs.Segments.{joined_of}

-- the bytes that a segmented source stands for: those of its segments, up to the most that a source has
abbrev pub segmented_bytes : Segmented → List ℕ
segmented_bytes source = take 8388608 (joined_of source.segments)

-- the bytes that a file's content stands for
abbrev pub bytes_of : FileContent → List ℕ
bytes_of (PlainContent source) = plainBytes source
bytes_of (SegmentedContent source) = segmented_bytes source

-- a segmented source that stands for just these bytes, or the refusal where they are too many
abbrev pub Made : List ℕ → Result Segmented Refusal → Type 0
Made bytes r =
    MatchResult r
    (λ source. (length bytes ≤ 8388608) × (segmented_bytes source ≡ bytes))
    (λ refusal. (8388608 < length bytes) × (refusal ≡ LongSource))

-- bytes are there, and too many for a source
abbrev pub TooMany : Option (List ℕ) → Type 0
TooMany None = ⊥
TooMany (Some bytes) = 8388608 < length bytes

-- where there is no content no source, else one that stands for just its bytes, or the refusal where they are too many
abbrev pub Found : Option (List ℕ) → Result (Option FileContent) Refusal → Type 0
Found bytes r = MatchResult r (λ source. mapped bytes_of source ≡ bytes) (λ refusal. TooMany bytes × (refusal ≡ LongSource))

-- the same, with no refusal
abbrev pub Served : Option (List ℕ) → Result (Option FileContent) Refusal → Type 0
Served bytes r = MatchResult r (λ source. mapped bytes_of source ≡ bytes) (λ refusal. ⊥)
