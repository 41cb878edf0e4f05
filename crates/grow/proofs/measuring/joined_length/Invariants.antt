use Rattle.std.proofs.Common.{◌≡◌, ◌≤◌, length, take}
use Rattle.areas.specs.Pieces.{joined}
use Rattle.grow.proofs.measuring.joined_length.Given as goal

-- the sum of the pieces so far
abbrev pub invariant-loop-piece : goal.invariant-loop-piece
invariant-loop-piece l = (l.sum ≡ length (joined (take l.piece-index l.pieces))) × (l.sum ≤ 65535)
