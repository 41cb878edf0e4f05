use Rattle.std.proofs.Common.{rules}
use Rattle.sha256.specs.Sha.{σ₁}
use Rattle.sha256.proofs.rounds.small1.Goals as goal

pub returns : goal.returns
unfolding σ₁
returns c = search rules
