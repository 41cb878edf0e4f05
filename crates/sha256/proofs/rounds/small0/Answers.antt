use Rattle.std.proofs.Common.{rules}
use Rattle.sha256.specs.Sha.{σ₀}
use Rattle.sha256.proofs.rounds.small0.Goals as goal

pub returns : goal.returns
unfolding σ₀
returns c = search rules
