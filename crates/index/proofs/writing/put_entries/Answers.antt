use Rattle.std.proofs.Common.{◌≡◌, ℕ, ◌*◌, ◌≤◌, List, length, ap, ◌∙◌, sym, subst, add-mul, arith}
use Rattle.der.specs.Trees.{encode}
use Rattle.digest.specs.Took.{most}
use Rattle.stamp_model.specs.Indexes.{entry_tree}
use Rattle.index.specs.Puts.{Put}
use Rattle.index.specs.Sizes.{framed_size_of}
use Rattle.index.proofs.Entering.{next_of, next_done, all_done, few_bytes, Entered, entered_more}
use Rattle.index.proofs.writing.put_entries.Goals as goal

pub loop-element-preserved : goal.loop-element-preserved
loop-element-preserved g c =
    let inv = c.loop-element.invariant in
    let steps = c.in-Some.ensures.steps in
    let put = c.put_entry-stop.ensures in
    let size = framed_size_of g.G.Digest.size in (
      tt,
      tt,
      omega (arith, inv.2, put.ends, ap (λ (n : ℕ). n * size) steps.counted, add-mul c.next.new.self.count 1 size),
      (λ ts s.
          let h = inv.3 ts s in
          let n = next_of _ _ _ h.rest h.left steps in
          let whole : c.whole.result.now ≡ encode n.first = c.whole.ensures ∙ n.handed.whole in
          let few : length c.whole.result.now ≤ most = subst (λ (x : List ℕ). length x ≤ most) (sym whole) (few_bytes n.first n.handed.valid.0 n.handed.valid.1) in
          let entry : Put c.loop-element.area c.put_entry-stop.new.area c.loop-element.stop (encode (entry_tree (g.G.Digest.value (encode n.first)))) c.put_entry-stop.result =
          subst (λ (x : List ℕ). Put c.loop-element.area c.put_entry-stop.new.area c.loop-element.stop (encode (entry_tree (g.G.Digest.value x))) c.put_entry-stop.result) whole (put.entry few) in
          next_done _ (Entered g.G.Digest.value c.args.area.now c.put_entry-stop.new.area c.args.at c.put_entry-stop.result) _ _ _ ts h n
          (entered_more g.G.Digest.value _ _ _ _ _ _ h.done n.first h.held entry)),
    )

pub returns-clause-entries : goal.returns-clause-entries
returns-clause-entries g c = λ ts s. all_done _ _ _ ts (c.loop-element.invariant.3 ts s) c.in-None.ensures.steps
