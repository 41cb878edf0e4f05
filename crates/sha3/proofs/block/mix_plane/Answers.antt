use Rattle.std.proofs.Common.{add-zero}
use Rattle.sha3.proofs.block.mix_plane.Goals as goal

pub returns : goal.returns
returns c = simp (c.read_lane.ensures, c.read_lane-2.ensures, c.read_lane-3.ensures, c.read_lane-4.ensures, c.read_lane-5.ensures, add-zero)
