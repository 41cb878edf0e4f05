use Rattle.std.proofs.Common.{◌≡◌, ◌-◌, min, length, ap, ◌∙◌}
use native.Mathlib.Nat.{sub-zero}
use Rattle.content.specs.Segments.{joined_of}
use Rattle.content.proofs.Filling.{read_clipped}
use Rattle.content.proofs.segmented.SegmentedSource.read_at.Goals as goal

pub returns : goal.returns
returns c =
    let block = c.args.block.now in
    let room : c.min-room.result - 0 ≡ min (length block) (8388608 - c.args.place) =
    sub-zero c.min-room.result ∙ c.min-room.ensures ∙ ap (min (length block)) c.saturating_sub.ensures in
    read_clipped (joined_of c.args.self.now.segments) 8388608 c.args.place (c.min-room.result - 0) block c.read_segments.new.block c.read_segments.result room c.read_segments.ensures
