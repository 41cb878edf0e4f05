use Rattle.std.proofs.Common.{refl}
use Rattle.cms.proofs.samples.samples_hold.Goals as goal

pub returns : goal.returns
returns c = (refl, refl, refl, refl, refl, refl, refl, refl, refl, refl, refl)
