use Rattle.std.proofs.Common.{◌≡◌, ◌+◌, ◌-◌, ◌≤◌, length}
use Rattle.content.specs.Segments.{joined_in, joined_of}
use Rattle.content.proofs.segments.count_bytes.Given as goal

-- what is counted, and what is left
abbrev pub invariant-loop-segment : goal.invariant-loop-segment
invariant-loop-segment l =
    (l.reader.bytes.now ≡ l.segments.bytes.now) × (l.reader.end ≡ l.segments.end) × (l.count ≤ l.reader.at)
    × (length (joined_of l.segments) ≡ l.count + length (joined_in l.segments.bytes.now l.reader.at l.segments.end))

abbrev pub decreases-loop-segment : goal.decreases-loop-segment
decreases-loop-segment l = l.reader.end - l.reader.at
