use Rattle.std.proofs.Common.{◌≡◌, ◌+◌, length, take}
use Rattle.areas.specs.Overlays.{overlay}
use Rattle.areas.specs.Pieces.{joined}
use Rattle.areas.proofs.putting.put_all.Given as goal

-- the pieces so far are written, and the next goes behind them
abbrev pub invariant-loop-piece : goal.invariant-loop-piece
invariant-loop-piece l =
    let front = joined (take l.piece-index l.pieces) in
    (l.end ≡ l.at + length front) × (l.area ≡ overlay l.at front l.initial.area)
