use Rattle.std.proofs.Common.{refl}
use Rattle.std.specs.Fmt.{digits}
use Rattle.listing.specs.Samples.{Samples}
use Rattle.listing.proofs.Pinned.{one_text}
use Rattle.listing.proofs.laws.laws_hold.Goals as goal

samples : Samples
unfolding digits
samples = (refl, refl, refl, refl)

pub returns : goal.returns
returns c = record { one_text = one_text; samples = samples }
