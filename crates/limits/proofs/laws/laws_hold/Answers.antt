use Rattle.limits.proofs.Keeping.{none_too_many}
use Rattle.limits.proofs.laws.laws_hold.Goals as goal

pub returns : goal.returns
returns c = none_too_many
