use Rattle.std.proofs.Common.{refl}
use Rattle.sha3.specs.Tables.{place, walked, shifted, register, rc, bits}
use Rattle.sha3.proofs.laws.tables_stand.Goals as goal

pub returns : goal.returns
unfolding place walked shifted register rc bits
returns c = (refl, refl)
