use Rattle.sha3.specs.Keccak.{π}
use Rattle.sha3.proofs.permutation.pi.Goals as goal

pub returns : goal.returns
unfolding π
returns c = simp (c.lay.ensures, c.lay-2.ensures, c.lay-3.ensures, c.lay-4.ensures, c.lay-5.ensures)
