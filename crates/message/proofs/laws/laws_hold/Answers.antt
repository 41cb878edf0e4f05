use Rattle.message.proofs.Exact.{one_formed, never_both}
use Rattle.message.proofs.laws.laws_hold.Goals as goal

pub returns : goal.returns
returns c = record { one_formed = one_formed; never_both = never_both }
