use Rattle.std.proofs.Common.{◌≡◌, ℕ, ◌≤◌, List, map, length, sym, ap, ◌∙◌, subst, arith}
use Rattle.der.specs.Trees.{encode, body_of}
use Rattle.digest.specs.Took.{most}
use Rattle.index.proofs.Entering.{next_of, next_done, all_done, few_bytes}
use Rattle.matching.specs.Rows.{side_for}
use Rattle.matching.proofs.Rowing.{row_same, rowed_more}
use Rattle.matching.proofs.surveying.put_rows.Goals as goal

pub loop-element-preserved : goal.loop-element-preserved
loop-element-preserved g c =
    let inv = c.loop-element.invariant in
    let steps = c.in-Some.ensures.steps in (
      tt,
      tt,
      omega (arith, inv.2, steps.counted),
      (λ ts us s t.
          let h = inv.3 ts us s t in
          let n = next_of _ _ _ h.rest h.left steps in
          let whole : c.whole-whole.result.now ≡ encode n.first = c.whole-whole.ensures ∙ n.handed.whole in
          let few : length c.whole-whole.result.now ≤ most = subst (λ (x : List ℕ). length x ≤ most) (sym whole) (few_bytes n.first n.handed.valid.0 n.handed.valid.1) in
          let side = c.side_of.ensures us t few ∙ ap (λ (x : List ℕ). side_for (map body_of us) (g.G.Digest.value x)) whole in
          next_done _ _ _ _ _ ts h n
          (rowed_more g.G.Digest.value c.args.list (map body_of us) _ _ _ _ _ _ _ h.done n.first _ (omega (arith, inv.2, c.requires, steps.counted, c.loop-element.auto.table)) h.held
          (row_same _ _ _ _ _ _ _ n.handed.start (ap length whole) side) n.handed.after)),
    )

pub returns-clause-rows : goal.returns-clause-rows
returns-clause-rows g c = λ ts us s t. (all_done _ _ _ ts (c.loop-element.invariant.3 ts us s t) c.in-None.ensures.steps).rows
