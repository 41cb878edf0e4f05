use Rattle.sha256.specs.Sha.{mixed}
use Rattle.sha256.proofs.rounds.mix.Goals as goal

pub returns : goal.returns
unfolding mixed
returns c = simp (c.small1.ensures, c.small0.ensures)
