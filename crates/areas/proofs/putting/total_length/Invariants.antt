use Rattle.std.proofs.Common.{◌≡◌, ◌-◌, ◌^◌, min, length, take}
use Rattle.areas.specs.Pieces.{joined}
use Rattle.areas.proofs.putting.total_length.Given as goal

-- the sum of the pieces so far
abbrev pub invariant-loop-piece : goal.invariant-loop-piece
invariant-loop-piece l = l.sum ≡ min (length (joined (take l.piece-index l.pieces))) (2 ^ 64 - 1)
