use Rattle.std.proofs.Common.{rules}
use Rattle.sha256.specs.Sha.{Σ₀}
use Rattle.sha256.proofs.rounds.big0.Goals as goal

pub returns : goal.returns
unfolding Σ₀
returns c = search rules
