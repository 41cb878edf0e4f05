use Rattle.std.proofs.Common.{refl}
use Rattle.sha256.specs.Sha.{fill_bytes_of}
use Rattle.sha256.proofs.padding.fill_bytes.Goals as goal

pub returns-clause-is : goal.returns-clause-is
unfolding fill_bytes_of
returns-clause-is c = refl
