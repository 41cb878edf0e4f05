use Rattle.std.proofs.Common.{ℕ, ◌+◌, ◌≤◌, List, length, drop}
use Rattle.grow.specs.Frames.{Frame, reach}
use Rattle.grow.specs.Changes.{Encloses}
use Rattle.grow.proofs.Sizes.{Ahead}
use Rattle.grow.proofs.measuring.measure_append.Given as goal

-- the elements so far grow, and with what they grow by the file has its new length
abbrev pub invariant-loop-place : goal.invariant-loop-place
invariant-loop-place l =
    (l.grow ≤ 65539)
    × ((fs : List Frame) (body : List ℕ) → Encloses l.file l.path fs body →
    Ahead l.file (drop l.place-index l.path) l.grow (reach fs (length body + l.more)))
