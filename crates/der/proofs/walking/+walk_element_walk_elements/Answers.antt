use Rattle.std.proofs.Common.{◌≡◌, ◌<◌, Ok, Err, drop, sym, refl, ◌∙◌, arith, rules}
use Rattle.std.proofs.lemmas.Result.{err_from_is_err_and}
use Rattle.der.specs.Head.{header_of}
use Rattle.der.specs.Trees.{Starts}
use Rattle.der.specs.Faults.{deep, head}
use Rattle.der.proofs.Walks.{leaf_starts, node_at, inside_at, starts_at, first_at, fault_on, forms_on, forms_end, by_bit, by_no_bit}
use Rattle.der.proofs.walking.+walk_element_walk_elements.Goals as goal

pub walk_element-returns-then-levels-eq0 : goal.walk_element-returns-then-levels-eq0
walk_element-returns-then-levels-eq0 t c = deep (omega arith) refl

pub walk_element-returns-in_err-header : goal.walk_element-returns-in_err-header
walk_element-returns-in_err-header t c =
    let p = err_from_is_err_and c.from_residual.result c.from_residual.ensures.1 in
    let f = c.in_err-header.field-0.0 in
    let e : header_of c.args.bytes.now ≡ Err f.cause = search rules in
    let placed : (f ≡ record { place = c.args.place; cause = f.cause }) = search rules in
    let deep_enough : 0 < c.args.levels = omega arith in
    rw (p.1, p.2) (head {levels = c.args.levels} f.cause deep_enough e placed)

pub walk_element-returns-in_err-walk_elements : goal.walk_element-returns-in_err-walk_elements
walk_element-returns-in_err-walk_elements t c =
    let p = err_from_is_err_and c.from_residual-in_err-walk_elements.result c.from_residual-in_err-walk_elements.ensures.1 in
    let e : header_of c.args.bytes.now ≡ Ok c.in_ok-header.header = search rules in
    rw (p.1, p.2) (inside_at c.args.levels c.args.place c.args.bytes.now c.in_ok-header.header _ (omega arith) (sym e) (by_bit c.in_ok-header.header.tag (sym c.is_constructed.ensures ∙ c.if-is_constructed.true))
    c.in_err-walk_elements.ensures)

pub walk_element-returns-in_ok-walk_elements : goal.walk_element-returns-in_ok-walk_elements
walk_element-returns-in_ok-walk_elements t c =
    let e : header_of c.args.bytes.now ≡ Ok c.in_ok-header.header = search rules in
    node_at c.args.levels c.args.bytes.now c.in_ok-header.header (λ i. omega (arith, c.type_inv.bytes i)) (omega arith) (sym e) (by_bit c.in_ok-header.header.tag (sym c.is_constructed.ensures ∙ c.if-is_constructed.true))
    c.in_ok-walk_elements.ensures

pub walk_element-returns-else-is_constructed : goal.walk_element-returns-else-is_constructed
walk_element-returns-else-is_constructed t c =
    let e : header_of c.args.bytes.now ≡ Ok c.in_ok-header.header = search rules in
    leaf_starts c.args.levels c.args.bytes.now c.in_ok-header.header (λ i. omega (arith, c.type_inv.bytes i)) (omega arith) e (by_no_bit c.in_ok-header.header.tag (sym c.is_constructed.ensures ∙ c.if-is_constructed.false))

pub walk_elements-returns-in_err-at : goal.walk_elements-returns-in_err-at
walk_elements-returns-in_err-at t c =
    let p = err_from_is_err_and c.from_residual.result c.from_residual.ensures.1 in
    rw (p.1, p.2) (c.loop-at.invariant.1 _
    (first_at c.args.levels c.args.place c.loop-at.at c.args.bytes.now _ c.loop-at-test.true c.in_err-at.ensures))

pub walk_elements-loop-at-preserved : goal.walk_elements-loop-at-preserved
walk_elements-loop-at-preserved t c =
    let s : Starts c.args.levels (drop c.loop-at.at c.args.bytes.now) c.in_ok-at.field-0 =
    starts_at c.args.levels c.loop-at.at c.in_ok-at.field-0 c.args.bytes.now c.in_ok-at.ensures in (
      search rules,
      (λ f. fault_on c.args.levels c.args.place c.loop-at.at c.in_ok-at.field-0 c.args.bytes.now f s (c.loop-at.invariant.1 f)),
      forms_on c.args.levels c.loop-at.at c.in_ok-at.field-0 c.args.bytes.now s c.loop-at.invariant.2,
    )

pub walk_elements-returns : goal.walk_elements-returns
walk_elements-returns t c = c.loop-at.invariant.2 (forms_end c.args.levels c.loop-at.at c.args.bytes.now c.loop-at-test.false)
