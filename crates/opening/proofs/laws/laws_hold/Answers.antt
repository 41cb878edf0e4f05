use Rattle.archive.proofs.Exact.{one_accepted}
use Rattle.opening.proofs.Exact.{exactly}
use Rattle.opening.proofs.laws.laws_hold.Goals as goal

pub returns : goal.returns
returns c = record { exactly = exactly; one_accepted = one_accepted }
