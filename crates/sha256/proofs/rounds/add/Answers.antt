use Rattle.std.proofs.Common.{refl}
use Rattle.sha256.specs.Sha.{added}
use Rattle.sha256.proofs.rounds.add.Goals as goal

pub returns : goal.returns
unfolding added
returns c = refl
