use Rattle.sha3.specs.Keccak.{D}
use Rattle.sha3.proofs.permutation.effects.Goals as goal

pub returns : goal.returns
unfolding D
returns c = simp (c.rotate_left.ensures, c.rotate_left-2.ensures, c.rotate_left-3.ensures, c.rotate_left-4.ensures, c.rotate_left-5.ensures, c.columns-c.ensures)
