-- No source has more than 8,388,608 bytes.
use Rattle.std.specs.Prelude.{ℕ, ◌≤◌, List, length, take}
use Rattle.std.proofs.Math.Nat.{min-le_left}
use Rattle.std.proofs.Common.{length-take}
use Rattle.content.specs.declared.segmented.Segmented.{Segmented}
use Rattle.content.specs.declared.contents.FileContent.{FileContent}
use Rattle.content.specs.declared.contents.FileContent.TheVariants.{Plain as PlainContent, Segmented as SegmentedContent}
use Rattle.content.specs.Segments.{joined_of}
use Rattle.content.specs.Sources.{segmented_bytes, bytes_of}

few : (bytes : List ℕ) → length (take 8388608 bytes) ≤ 8388608
few bytes = rw (length-take 8388608 bytes) (min-le_left 8388608 (length bytes))

pub few_segmented : (source : Segmented) → length (segmented_bytes source) ≤ 8388608
few_segmented source = few (joined_of source.segments)

pub few_content : (content : FileContent) → length (bytes_of content) ≤ 8388608
few_content (PlainContent source) = few source.bytes.now
few_content (SegmentedContent source) = few_segmented source
