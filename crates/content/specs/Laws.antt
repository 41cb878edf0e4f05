-- The laws of contents.
use Rattle.std.specs.Prelude.{◌≡◌, ℕ, ◌≤◌, List, length}
use Rattle.std.specs.List.{flat_map}
use Rattle.der.specs.Spans.{part}
use Rattle.der.specs.Trees.{Valid, Valids, encodes}
use Rattle.cms.specs.Places.{message_at}
use Rattle.model.specs.Parts.{row_of, segment_tree}
use Rattle.model.specs.Files.{File, file_tree, file_bytes}
use Rattle.content.specs.Contents.{content_bytes, content_in}
use Rattle.content.specs.Segments.{joined_in}

-- where segments stand, their bytes are what is joined
abbrev pub SegmentsJoin : Type 0
SegmentsJoin = (segments : List (List ℕ)) (levels : ℕ) (file : List ℕ) (at end : ℕ) → Valids (row_of segment_tree segments) levels → at ≤ end → end ≤ length file →
    part file at end ≡ encodes (row_of segment_tree segments) → joined_in file at end ≡ flat_map (λ bytes. bytes) segments

-- the content of a file lies where its message says
abbrev pub ContentLies : Type 0
ContentLies = (f : File) (levels : ℕ) → Valid (file_tree f) levels → content_in (file_bytes f) (message_at 0 (file_tree f)).info.content ≡ content_bytes f.content
