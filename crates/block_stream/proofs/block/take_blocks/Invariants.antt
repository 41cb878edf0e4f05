use Rattle.std.proofs.Common.{◌≡◌, ℕ, ◌*◌, ◌%◌, List, ◌++◌, length, take}
use Rattle.block_stream.proofs.block.take_blocks.Given as goal

abbrev pub invariant-loop-block : goal.invariant-loop-block
invariant-loop-block g l =
    (xs : List ℕ) → length xs % g.row.N ≡ 0 → g.S.BlockState.stands l.initial.state xs → g.S.BlockState.stands l.state (xs ++ take (l.block-index * g.row.N) l.bytes)
