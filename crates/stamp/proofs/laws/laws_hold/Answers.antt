use Rattle.stamp.proofs.Exact.{never_misindexed, never_both, never_burdened, stamp_one}
use Rattle.stamp.proofs.laws.laws_hold.Goals as goal

pub returns : goal.returns
returns c = record { never_misindexed = never_misindexed; never_both = never_both; never_burdened = never_burdened; one_stamp = stamp_one }
