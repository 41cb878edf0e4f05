use Rattle.sha3.proofs.block.mix.Goals as goal

pub returns : goal.returns
returns c = simp (c.mix_plane.ensures, c.mix_plane-2.ensures, c.mix_plane-3.ensures, c.read_lane.ensures, c.read_lane-2.ensures)
