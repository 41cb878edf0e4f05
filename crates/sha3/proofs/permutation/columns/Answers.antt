use Rattle.std.proofs.Common.{refl}
use Rattle.sha3.specs.Keccak.{C}
use Rattle.sha3.proofs.permutation.columns.Goals as goal

pub returns : goal.returns
unfolding C
returns c = refl
