use Rattle.std.proofs.Common.{ℕ, List, [], sym, subst, arith}
use Rattle.std.proofs.lemmas.Result.{err_from_is_err_and}
use Rattle.areas.specs.Pieces.{joined}
use Rattle.grow.specs.Changes.{Encloses}
use Rattle.grow.proofs.Inserts.{refused_long, append_fits, still_short_append, at_end, wrapped_changed, changed_end}
use Rattle.grow.proofs.file.GrowingFile.append.Goals as goal

pub returns-in_err-size-clause-changed : goal.returns-in_err-size-clause-changed
returns-in_err-size-clause-changed c fs body e =
    let new : List ℕ = joined c.args.pieces.now in
    let p = err_from_is_err_and c.from_residual.result c.from_residual.ensures.1 in
    changed_end fs body new
    (refused_long c.args.self.now fs body new [] new c.from_residual.result p.0 c.in_err-size.field-0.0 p.1 p.2 c.in_err-size.ensures (omega arith))

pub contents_end-at-requires-clause-short : goal.contents_end-at-requires-clause-short
contents_end-at-requires-clause-short c =
    let (fs, body, e) = c.requires.path in
    let fit = append_fits c.args.self.now _ _ (joined c.args.pieces.now) _ _ _ fs c.bytes.ensures c.room.ensures c.in_ok-size.ensures body e c.in_ok-measure_append.ensures in
    let here = subst (λ (x : List ℕ). Encloses x c.args.path.now fs body) (sym c.bytes-2.ensures) e in
    still_short_append _ _ (joined c.args.pieces.now) fs body here fit.short

pub returns-clause-changed : goal.returns-clause-changed
returns-clause-changed c fs body e =
    let fit = append_fits c.args.self.now _ _ (joined c.args.pieces.now) _ _ _ fs c.bytes.ensures c.room.ensures c.in_ok-size.ensures body e c.in_ok-measure_append.ensures in
    let here = subst (λ (x : List ℕ). Encloses x c.args.path.now fs body) (sym c.bytes-2.ensures) e in
    changed_end fs body (joined c.args.pieces.now)
    (wrapped_changed _ _ _ fit (c.insert.ensures.wrapped fs body [] (at_end _ _ fs body _ (c.contents_end-at.ensures fs body here) e)))
