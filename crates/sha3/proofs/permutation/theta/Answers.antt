use Rattle.sha3.specs.Keccak.{θ}
use Rattle.sha3.proofs.permutation.theta.Goals as goal

pub returns : goal.returns
unfolding θ
returns c = simp (c.add.ensures, c.add-2.ensures, c.add-3.ensures, c.add-4.ensures, c.add-5.ensures, c.effects-d.ensures)
