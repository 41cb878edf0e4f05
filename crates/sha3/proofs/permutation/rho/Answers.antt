use Rattle.sha3.specs.Keccak.{ρ}
use Rattle.sha3.proofs.permutation.rho.Goals as goal

pub returns : goal.returns
unfolding ρ
returns c = simp (c.turn.ensures, c.turn-2.ensures, c.turn-3.ensures, c.turn-4.ensures, c.turn-5.ensures)
