use Rattle.std.proofs.Common.{◌≡◌, ◌-◌}
use Rattle.limits.specs.Past.{past_of}
use Rattle.limits.proofs.counted.find_past.Given as goal

-- what is left decides the whole
abbrev pub invariant-loop : goal.invariant-loop
invariant-loop l =
    (l.reader.bytes.now ≡ l.inside.bytes.now) × (l.reader.end ≡ l.inside.end)
    × (past_of l.limit l.inside.bytes.now l.inside.at l.inside.end
    ≡ past_of (l.limit - l.counter) l.inside.bytes.now l.reader.at l.inside.end)
