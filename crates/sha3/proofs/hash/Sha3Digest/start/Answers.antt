use Rattle.std.proofs.Common.{refl}
use Rattle.sha3.specs.Sha3.{chain}
use Rattle.sha3.proofs.hash.Sha3Digest.start.Goals as goal

pub returns : goal.returns
unfolding chain
returns c = c.new.ensures.holds refl
