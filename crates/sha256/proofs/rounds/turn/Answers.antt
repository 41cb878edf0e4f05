use Rattle.sha256.specs.Sha.{round, T₁, T₂}
use Rattle.sha256.proofs.rounds.turn.Goals as goal

pub returns : goal.returns
unfolding round T₁ T₂
returns c = simp (c.big1.ensures, c.choose.ensures, c.big0.ensures, c.majority.ensures)
