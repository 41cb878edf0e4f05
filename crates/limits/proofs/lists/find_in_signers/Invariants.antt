use Rattle.std.proofs.Common.{◌≡◌, ◌-◌}
use Rattle.limits.specs.Past.{signers_past}
use Rattle.limits.proofs.lists.find_in_signers.Given as goal

-- what is left decides the whole
abbrev pub invariant-loop : goal.invariant-loop
invariant-loop l =
    (l.reader.bytes.now ≡ l.file) × (l.reader.end ≡ l.fn.signers.field.end)
    × (signers_past l.limit l.file l.fn.signers.field.body l.fn.signers.field.end ≡ signers_past (l.limit - l.counter) l.file l.reader.at l.fn.signers.field.end)
