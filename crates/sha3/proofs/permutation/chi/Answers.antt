use Rattle.sha3.specs.Keccak.{χ}
use Rattle.sha3.proofs.Twists.{five_planes}
use Rattle.sha3.proofs.permutation.chi.Goals as goal

pub returns : goal.returns
unfolding χ
returns c = five_planes c.twist0.ensures c.twist1.ensures c.twist2.ensures c.twist3.ensures c.twist4.ensures
