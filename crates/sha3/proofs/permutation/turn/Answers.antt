use Rattle.sha3.proofs.permutation.turn.Goals as goal

pub returns : goal.returns
returns c = simp (c.rotate_left.ensures, c.rotate_left-2.ensures, c.rotate_left-3.ensures, c.rotate_left-4.ensures, c.rotate_left-5.ensures)
