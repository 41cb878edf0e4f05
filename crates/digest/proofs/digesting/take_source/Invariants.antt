use Rattle.std.proofs.Common.{◌≡◌, ℕ, ◌*◌, ◌≤◌, List, ◌++◌, length, take}
use Rattle.digest.proofs.digesting.take_source.Given as goal

abbrev pub invariant-loop-i : goal.invariant-loop-i
invariant-loop-i g l =
    (length l.block ≡ 4096)
    × ((xs : List ℕ) → g.G.Digest.stands l.initial.state xs → length xs ≤ 8388608 → g.G.Digest.stands l.state (xs ++ take (4096 * l.i) (g.S.Source.bytes l.source)))
