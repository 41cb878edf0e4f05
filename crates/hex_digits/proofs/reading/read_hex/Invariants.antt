use Rattle.std.proofs.Common.{◌≡◌, length, vec_items}
use Rattle.hex_digits.specs.Digits.{bytes_of}
use Rattle.hex_digits.proofs.Stepping.{with_all}
use Rattle.hex_digits.proofs.reading.read_hex.Given as goal

-- the bytes so far, and those that are left
abbrev pub invariant-loop-rest : goal.invariant-loop-rest
invariant-loop-rest l = bytes_of l.text ≡ with_all (vec_items l.bytes) (bytes_of l.rest)

abbrev pub decreases-loop-rest : goal.decreases-loop-rest
decreases-loop-rest l = length l.rest
