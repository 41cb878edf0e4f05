use Rattle.std.proofs.Common.{rules}
use Rattle.sha256.specs.Sha.{Σ₁}
use Rattle.sha256.proofs.rounds.big1.Goals as goal

pub returns : goal.returns
unfolding Σ₁
returns c = search rules
