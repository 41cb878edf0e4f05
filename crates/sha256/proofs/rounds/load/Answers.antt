use Rattle.sha256.specs.Sha.{M}
use Rattle.sha256.proofs.rounds.load.Goals as goal

pub returns : goal.returns
unfolding M
returns c = c.from_be_bytes.ensures
