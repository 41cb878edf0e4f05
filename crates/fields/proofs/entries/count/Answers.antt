use Rattle.std.proofs.Common.{◌≡◌, ℕ, ◌+◌, ◌-◌, List, Result, sym, ap, ◌∙◌, arith}
use Rattle.std.proofs.lemmas.Result.{err_from_is_err_and}
use Rattle.der.specs.declared.span.Span.{Span}
use Rattle.fields.specs.Reads.{Reading, count_of}
use Rattle.fields.proofs.Counting.{count_end, count_on, count_broke}
use Rattle.fields.proofs.entries.count.Goals as goal

-- the bytes and the end are those that the reader began with
same_reading : (each : Reading) (bs bs' : List ℕ) (at end end' : ℕ) (r : Result Span ℕ) → bs ≡ bs' → end ≡ end' → r ≡ each bs at end → r ≡ each bs' at end'
same_reading each bs bs' at end end' r p q e = e ∙ ap (λ (x : List ℕ). each x at end) p ∙ ap (each bs' at) q

pub returns-in_err-read : goal.returns-in_err-read
returns-in_err-read g c =
    let p = err_from_is_err_and c.from_residual.result c.from_residual.ensures.1 in
    let inv = c.loop-reader.invariant in
    let bs = c.args.inside.bytes.now in
    let end = c.args.inside.end in
    let k = end - c.args.inside.at - c.loop-reader.count in
    let test = c.loop-reader-test.true in
    let reading = same_reading g.E.Entry.outcome c.loop-reader.reader.bytes.now bs c.loop-reader.reader.at c.loop-reader.reader.end end _ inv.0 inv.1 c.in_err-read.ensures.value in
    rw (p.1, p.2) (sym (inv.3 ∙ count_broke g.E.Entry.outcome bs end k c.loop-reader.reader.at c.loop-reader.count _ (omega (arith, inv.1, inv.2)) (omega (arith, inv.1)) reading))

pub loop-reader-preserved : goal.loop-reader-preserved
loop-reader-preserved g c =
    let inv = c.loop-reader.invariant in
    let bs = c.args.inside.bytes.now in
    let end = c.args.inside.end in
    let k = end - c.args.inside.at - c.loop-reader.count in
    let less : k - 1 ≡ end - c.args.inside.at - (c.loop-reader.count + 1) = omega arith in
    let moved = c.in_ok-read.ensures.moved in
    let ahead = c.in_ok-read.ensures.ahead in
    let reading = same_reading g.E.Entry.outcome c.loop-reader.reader.bytes.now bs c.loop-reader.reader.at c.loop-reader.reader.end end _ inv.0 inv.1 c.in_ok-read.ensures.value in
    let test = c.loop-reader-test.true in (
      c.read.ensures.bytes ∙ inv.0,
      c.read.ensures.end ∙ inv.1,
      omega (arith, inv.2, moved, ahead),
      inv.3
          ∙ count_on g.E.Entry.outcome bs end k c.loop-reader.reader.at c.loop-reader.count _ (omega (arith, inv.1, inv.2)) (omega (arith, inv.1)) reading
          ∙ ap (λ (m : ℕ). count_of g.E.Entry.outcome m bs c.in_ok-read.field-0.end end (c.loop-reader.count + 1)) less
          ∙ ap (λ (a : ℕ). count_of g.E.Entry.outcome (end - c.args.inside.at - (c.loop-reader.count + 1)) bs a end (c.loop-reader.count + 1)) (sym moved),
    )

pub returns : goal.returns
returns g c =
    let inv = c.loop-reader.invariant in
    sym (inv.3 ∙ count_end g.E.Entry.outcome c.args.inside.bytes.now c.args.inside.end _ c.loop-reader.reader.at c.loop-reader.count (omega (arith, inv.1, c.loop-reader-test.false)))
