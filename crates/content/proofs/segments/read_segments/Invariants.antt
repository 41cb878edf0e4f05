use Rattle.std.proofs.Common.{◌≡◌, ℕ, ◌-◌, ◌≤◌, List, ◌++◌, length}
use Rattle.digest.specs.Read.{Read}
use Rattle.content.specs.Segments.{joined_in, joined_of}
use Rattle.content.proofs.segments.read_segments.Given as goal

-- the segments that are passed are read, and the others are left
abbrev pub invariant-loop-filled : goal.invariant-loop-filled
invariant-loop-filled l =
    (l.reader.bytes.now ≡ l.segments.bytes.now) × (l.reader.end ≡ l.segments.end) × (l.passed ≤ l.reader.at)
    × ((before : List ℕ) × (length before ≡ l.passed)
    × (joined_of l.segments ≡ before ++ joined_in l.segments.bytes.now l.reader.at l.segments.end)
    × Read before l.place l.initial.block l.block l.filled)

abbrev pub decreases-loop-filled : goal.decreases-loop-filled
decreases-loop-filled l = l.reader.end - l.reader.at
