use Rattle.archive.proofs.Exact.{exactly, one_accepted}
use Rattle.archive.proofs.laws.laws_hold.Goals as goal

pub returns : goal.returns
returns c = record { exactly = exactly; one_accepted = one_accepted }
