use Rattle.std.proofs.Common.{refl}
use Rattle.sha3.specs.Keccak.{ι}
use Rattle.sha3.proofs.permutation.iota.Goals as goal

pub returns : goal.returns
unfolding ι
returns c = refl
