use Rattle.std.proofs.Common.{◌≡◌, ℕ, ◌-◌, ◌<◌, List, ◌++◌, length, vec_items, ap, sym, ◌∙◌, subst, arith, rules}
use Rattle.std.proofs.lemmas.Bool.Decides.{nat_tests}
use Rattle.der.specs.Spans.{part}
use Rattle.der.specs.Trees.{Valids}
use Rattle.listing.proofs.Turns.{Left, deeper, first_left, leaf_listed, node_listed, inner_forms, on, all_listed}
use Rattle.listing.proofs.elements.+list_elements.Goals as goal

pub unreachable-requires : goal.unreachable-requires
unreachable-requires t c =
    let r = c.loop-reader.reader in
    let f = c.requires.forms in
    let left = c.loop-reader.invariant.left f.0 f.1 f.2 in
    let order : r.at < r.end = grind (arith, nat_tests) in
    first_left (33 - c.args.level) r.at r.end r.bytes.now order c.loop-reader.invariant.within left.0 left.1 left.2 (λ u rest v e. c.in_default.ensures.trees u rest (33 - c.args.level) v e)

pub list_elements-requires : goal.list_elements-requires
list_elements-requires t c =
    let r = c.loop-reader.reader in
    let s = c.in-Ok.element.span in
    let h = c.in-Ok.ensures.reads.1 in
    let f = c.requires.forms in
    let left = c.loop-reader.invariant.left f.0 f.1 f.2 in
    let order : r.at < r.end = grind (arith, nat_tests) in
    let p = inner_forms (33 - c.args.level) c.args.level r.at r.end c.next.new.self.at r.bytes.now s h order c.loop-reader.invariant.within c.if-span-ne0.true left.0 left.1 left.2
    (λ u rest v e. c.in-Ok.ensures.trees u rest (33 - c.args.level) v e) in
    let inner : part c.enter.result.bytes.now c.enter.result.at c.enter.result.end ≡ part r.bytes.now s.body s.end = cc (c.enter.ensures.0, c.enter.ensures.1, c.enter.ensures.2, c.in-Ok.ensures.reads.0) in (
      search (rules, p.0),
      (
        omega (arith, h.ends, c.enter.ensures.1, c.enter.ensures.2),
        (
          omega (arith, h.within, c.enter.ensures.2, ap length c.enter.ensures.0, ap length c.in-Ok.ensures.reads.0, c.loop-reader.invariant.within),
          (omega (arith, p.0), (p.1.0, subst (Valids p.1.0) (deeper c.args.level) p.1.1, p.1.2 ∙ sym inner)),
        ),
      ),
    )

pub loop-reader-preserved-in-Continue-branch-2 : goal.loop-reader-preserved-in-Continue-branch-2
loop-reader-preserved-in-Continue-branch-2 t c =
    let r = c.loop-reader.reader in
    let n = c.next.new.self in
    let s = c.in-Ok.element.span in
    let h = c.in-Ok.ensures.reads.1 in
    let order : r.at < r.end = grind (arith, nat_tests) in
    let rest : part r.bytes.now n.at r.end ≡ part n.bytes.now n.at n.end = cc (c.in-Ok.ensures.stands.0, c.in-Ok.ensures.stands.1) in
    let inner : part c.enter.result.bytes.now c.enter.result.at c.enter.result.end ≡ part r.bytes.now s.body s.end = cc (c.enter.ensures.0, c.enter.ensures.1, c.enter.ensures.2, c.in-Ok.ensures.reads.0) in
    record {
      order = omega (arith, h.within, h.behind, c.in-Ok.ensures.stands.1);
      within = omega (arith, c.in-Ok.ensures.stands.1, ap length c.in-Ok.ensures.stands.0, c.loop-reader.invariant.within);
      left = subst (λ (x : List ℕ). Left (33 - c.args.level) c.args.level c.args.elements.at n.at (part c.args.elements.bytes.now c.args.elements.at c.args.elements.end) x (vec_items c.args.lines.now) (vec_items c.list_elements.new.lines)) rest
          (on (33 - c.args.level) c.args.level r.at r.end n.at r.bytes.now s h order c.loop-reader.invariant.within c.args.elements.at _ _ _ _ c.loop-reader.invariant.left
          (λ u us v e. c.in-Ok.ensures.trees u us (33 - c.args.level) v e)
          (λ u us v f.
          node_listed (33 - c.args.level) c.args.level r.at r.end n.at r.bytes.now s h order c.loop-reader.invariant.within u us f (vec_items c.loop-reader.lines) (vec_items c.push.new.self) _ _
          c.enter.result.at c.if-span-ne0.true v.0 inner c.enter.ensures.1 c.in_ok-push.ensures.items
          (λ ts w e. c.in_ok-list_elements.ensures ts (subst (Valids ts) (deeper c.args.level) w) e)));
    }

pub loop-reader-preserved : goal.loop-reader-preserved
loop-reader-preserved t c =
    let r = c.loop-reader.reader in
    let n = c.next.new.self in
    let s = c.in-Ok.element.span in
    let h = c.in-Ok.ensures.reads.1 in
    let order : r.at < r.end = grind (arith, nat_tests) in
    let rest : part r.bytes.now n.at r.end ≡ part n.bytes.now n.at n.end = cc (c.in-Ok.ensures.stands.0, c.in-Ok.ensures.stands.1) in
    record {
      order = omega (arith, h.within, h.behind, c.in-Ok.ensures.stands.1);
      within = omega (arith, c.in-Ok.ensures.stands.1, ap length c.in-Ok.ensures.stands.0, c.loop-reader.invariant.within);
      left = subst (λ (x : List ℕ). Left (33 - c.args.level) c.args.level c.args.elements.at n.at (part c.args.elements.bytes.now c.args.elements.at c.args.elements.end) x (vec_items c.args.lines.now) (vec_items c.push.new.self)) rest
          (on (33 - c.args.level) c.args.level r.at r.end n.at r.bytes.now s h order c.loop-reader.invariant.within c.args.elements.at _ _ _ _ c.loop-reader.invariant.left
          (λ u us v e. c.in-Ok.ensures.trees u us (33 - c.args.level) v e)
          (λ u us v f. c.in_ok-push.ensures.items ∙ ap (λ x. vec_items c.loop-reader.lines ++ x) (leaf_listed (33 - c.args.level) c.args.level r.at r.end n.at r.bytes.now s h order c.loop-reader.invariant.within u us f c.if-span-ne0.false v.0)));
    }

pub returns : goal.returns
returns t c =
    let r = c.loop-reader.reader in
    all_listed (33 - c.args.level) c.args.level c.args.elements.at r.at r.end _ r.bytes.now _ _ (grind (arith, nat_tests)) c.loop-reader.invariant.left
