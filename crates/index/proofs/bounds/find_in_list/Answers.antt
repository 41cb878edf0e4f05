use Rattle.std.proofs.Common.{refl, ◌∙◌}
use Rattle.index.proofs.bounds.find_in_list.Goals as goal

pub returns : goal.returns
returns c = let i = c.inside.ensures in c.too_many.ensures.computed ∙ rw (i.0, i.1, i.2) refl
