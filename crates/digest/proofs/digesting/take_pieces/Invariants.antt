use Rattle.std.proofs.Common.{ℕ, ◌+◌, ◌≤◌, List, ◌++◌, length, take}
use Rattle.std.specs.List.{flat_map}
use Rattle.digest.proofs.digesting.take_pieces.Given as goal

abbrev pub invariant-loop-piece : goal.invariant-loop-piece
invariant-loop-piece g l =
    let front = flat_map (λ p. p.now) (take l.piece-index l.pieces) in
    (xs : List ℕ) → g.G.Digest.stands l.initial.state xs → length xs ≤ 16777216 → (length xs + length front ≤ 16777216) × g.G.Digest.stands l.state (xs ++ front)
