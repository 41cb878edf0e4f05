use Rattle.std.proofs.Common.{◌+◌, ◌-◌, ◌*◌, ◌≤◌, length, drop}
use Rattle.der.specs.declared.fault.Fault.{Fault}
use Rattle.der.specs.Trees.{Forms}
use Rattle.der.specs.Faults.{InForest}
use Rattle.der.proofs.walking.+walk_element_walk_elements.Given as goal

abbrev pub decreases-walk_element : goal.decreases-walk_element
decreases-walk_element l = 2 * l.levels

abbrev pub decreases-walk_elements : goal.decreases-walk_elements
decreases-walk_elements l = 2 * l.levels + 1

-- what is left at `at` decides the whole
abbrev pub invariant-walk_elements-loop-at : goal.invariant-walk_elements-loop-at
invariant-walk_elements-loop-at l =
    (l.at ≤ length l.bytes)
    × ((f : Fault) → InForest l.levels (drop l.at l.bytes) (l.place + l.at) f → InForest l.levels l.bytes l.place f)
    × (Forms l.levels (drop l.at l.bytes) → Forms l.levels l.bytes)

abbrev pub decreases-walk_elements-loop-at : goal.decreases-walk_elements-loop-at
decreases-walk_elements-loop-at l = length l.bytes - l.at
