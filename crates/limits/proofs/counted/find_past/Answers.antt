use Rattle.std.proofs.Common.{◌≡◌, ℕ, List, None, Result, sym, refl, ap, ◌∙◌}
use Rattle.der.specs.declared.fault.Fault.{Fault}
use Rattle.der.specs.declared.span.Span.{Span}
use Rattle.der.specs.Spans.{element_of}
use Rattle.fields.specs.Reads.{placed, any_of, span_stop}
use Rattle.limits.specs.Past.{left_of}
use Rattle.limits.proofs.Behind.{past_all, past_done, past_none, past_on}
use Rattle.limits.proofs.counted.find_past.Goals as goal

-- the bytes and the end are those that the reader began with
same_element : (file bytes : List ℕ) (at stop end : ℕ) (r : Result Span Fault) → bytes ≡ file → stop ≡ end → element_of bytes at stop ≡ r → placed at r ≡ any_of file at end
same_element file bytes at stop end r p q e = ap (placed at) (sym e ∙ ap (λ (x : List ℕ). element_of x at stop) p ∙ ap (element_of file at) q)

pub loop-init : goal.loop-init
loop-init c = (refl, refl, past_all any_of span_stop (λ _ _. None) c.args.inside.bytes.now c.args.inside.end c.args.limit c.args.inside.at)

pub returns-in_default : goal.returns-in_default
returns-in_default c =
    let inv = c.loop.invariant in
    sym (inv.2 ∙ past_none any_of span_stop (λ _ _. None) c.args.inside.bytes.now c.args.inside.end c.args.limit c.loop.counter c.loop.reader.at _ c.loop-test.true
    (same_element _ _ _ _ _ _ inv.0 inv.1 c.in_default.ensures.reads.read))

pub loop-preserved : goal.loop-preserved
loop-preserved c =
    let inv = c.loop.invariant in
    let stands = c.next.ensures.stands in
    let handed = c.in-Ok.ensures.reads.1 in (
      stands.0 ∙ inv.0,
      stands.1 ∙ inv.1,
      inv.2 ∙ past_on any_of span_stop (λ _ _. None) c.args.inside.bytes.now c.args.inside.end c.args.limit c.loop.counter c.loop.reader.at _ _ c.loop-test.true
          (same_element _ _ _ _ _ _ inv.0 inv.1 handed.read) refl handed.behind,
    )

pub returns : goal.returns
returns c =
    let inv = c.loop.invariant in
    c.place_left.ensures ∙ ap (left_of c.loop.reader.at) inv.1
    ∙ sym (inv.2 ∙ past_done any_of span_stop (λ _ _. None) c.args.inside.bytes.now c.args.inside.end c.args.limit c.loop.counter c.loop.reader.at c.loop-test.false)
