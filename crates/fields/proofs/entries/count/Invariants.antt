use Rattle.std.proofs.Common.{◌≡◌, ◌+◌, ◌-◌, ◌≤◌}
use Rattle.fields.specs.Reads.{list_of, count_of}
use Rattle.fields.proofs.entries.count.Given as goal

-- what is left decides the whole, and each entry has taken a byte at least
abbrev pub invariant-loop-reader : goal.invariant-loop-reader
invariant-loop-reader g l =
    (l.reader.bytes.now ≡ l.inside.bytes.now) × (l.reader.end ≡ l.inside.end) × (l.inside.at + l.count ≤ l.reader.at)
    × (list_of g.E.Entry.outcome l.inside.bytes.now l.inside.at l.inside.end
    ≡ count_of g.E.Entry.outcome (l.inside.end - l.inside.at - l.count) l.inside.bytes.now l.reader.at l.inside.end l.count)

abbrev pub decreases-loop-reader : goal.decreases-loop-reader
decreases-loop-reader g l = l.reader.end - l.reader.at
