use Rattle.std.proofs.Common.{ℕ, ◌+◌, ◌≤◌, List, length, get_or, take, sym, ap, ◌∙◌, arith}
use Rattle.std.proofs.lemmas.List.Folds.{length-flat_map-take}
use Rattle.areas.specs.Overlays.{overlay}
use Rattle.areas.specs.Pieces.{joined}
use Rattle.areas.proofs.Joins.{no_piece, front_next, front_length}
use Rattle.areas.proofs.Overlays.{overlay_more}
use Rattle.areas.proofs.putting.put_all.Goals as goal

pub loop-piece-preserved : goal.loop-piece-preserved
loop-piece-preserved c =
    let pieces = c.args.pieces.now in
    let i = c.loop-piece.piece-index in
    let front : List ℕ = joined (take i pieces) in
    let piece : List ℕ = (get_or pieces i no_piece).now in
    let inv = c.loop-piece.invariant in
    let fit : c.args.at + length (joined pieces) ≤ length c.args.area.now = omega (arith, c.if-saturating_add-area.false, c.saturating_add.ensures, c.total_length.ensures) in
    let put = c.put-end.ensures.fits
    (omega (arith, inv.0, fit, c.loop-piece.auto.area, length-flat_map-take (λ p. p.now) pieces i no_piece c.loop-piece-test.true)) in (
      omega (arith, put.0, inv.0, front_length pieces i c.loop-piece-test.true),
      put.1
          ∙ ap (λ (x : ℕ). overlay x piece c.loop-piece.area) inv.0
          ∙ ap (overlay (c.args.at + length front) piece) inv.1
          ∙ overlay_more c.args.at front piece c.args.area.now (omega (arith, fit))
          ∙ ap (λ (x : List ℕ). overlay c.args.at x c.args.area.now) (sym (front_next pieces i c.loop-piece-test.true)),
    )
