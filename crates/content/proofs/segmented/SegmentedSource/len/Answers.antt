use Rattle.content.specs.Segments.{joined_of}
use Rattle.content.proofs.Filling.{length_clipped}
use Rattle.content.proofs.segmented.SegmentedSource.len.Goals as goal

pub returns : goal.returns
returns c = length_clipped (joined_of c.args.self.now.segments) 8388608 c.count_bytes.result c.min.result c.count_bytes.ensures c.min.ensures
