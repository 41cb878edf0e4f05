use Rattle.std.proofs.Common.{refl, ◌∙◌}
use Rattle.limits.proofs.lists.find_in_list.Goals as goal

pub returns : goal.returns
returns c = let i = c.inside.ensures in rw c.in_ok-list.was (c.find_past.ensures ∙ rw (i.0, i.1, i.2) refl)
