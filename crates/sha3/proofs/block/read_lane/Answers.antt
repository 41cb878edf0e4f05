use Rattle.sha3.specs.Sha3.{word}
use Rattle.sha3.proofs.block.read_lane.Goals as goal

pub returns : goal.returns
unfolding word
returns c = c.from_le_bytes.ensures
