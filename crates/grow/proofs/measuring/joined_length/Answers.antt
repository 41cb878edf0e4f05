use Rattle.std.proofs.Common.{arith}
use Rattle.std.proofs.lemmas.List.Folds.{length-flat_map-take}
use Rattle.grow.proofs.Fits.{short_over}
use Rattle.areas.proofs.Joins.{no_piece}
use Rattle.grow.proofs.measuring.joined_length.Goals as goal

pub returns-then-piece-sum : goal.returns-then-piece-sum
returns-then-piece-sum c =
    let inv = c.loop-piece.invariant in
    short_over _ (omega (arith, inv.0, inv.1, c.if-piece-sum.true, length-flat_map-take (λ p. p.now) c.args.pieces.now c.loop-piece.piece-index no_piece c.loop-piece-test.true))
