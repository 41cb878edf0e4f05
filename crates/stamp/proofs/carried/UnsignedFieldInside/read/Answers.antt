use Rattle.std.proofs.Common.{refl, ◌∙◌}
use Rattle.stamp.proofs.carried.UnsignedFieldInside.read.Goals as goal

pub returns : goal.returns
returns c = let i = c.enter.ensures in c.read_single.ensures ∙ rw (i.0, i.1, i.2) refl
