use Rattle.std.proofs.Common.{◌≡◌, ◌++◌, take, vec_items}
use Rattle.digest_line.specs.Hex.{hex_of}
use Rattle.digest_line.proofs.line.push_hex.Given as goal

abbrev pub invariant-loop-b : goal.invariant-loop-b
invariant-loop-b l = vec_items l.text ≡ vec_items l.initial.text ++ hex_of (take l.b-index l.bytes)
