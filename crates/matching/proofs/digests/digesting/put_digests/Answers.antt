use Rattle.std.proofs.Common.{◌≡◌, ℕ, ◌*◌, ◌≤◌, List, length, sym, ap, ◌∙◌, subst, add-mul, arith}
use Rattle.der.specs.Trees.{encode}
use Rattle.digest.specs.Took.{most}
use Rattle.index.specs.Puts.{Put}
use Rattle.index.proofs.Entering.{next_of, next_done, all_done, few_bytes}
use Rattle.matching.proofs.Joining.{Digested, digested_more}
use Rattle.matching.proofs.digests.digesting.put_digests.Goals as goal

pub loop-element-preserved : goal.loop-element-preserved
loop-element-preserved g c =
    let inv = c.loop-element.invariant in
    let steps = c.in-Some.ensures.steps in
    let put = c.put_digest-stop.ensures in (
      tt,
      tt,
      omega (arith, inv.2, put.ends, ap (λ (n : ℕ). n * g.G.Digest.size) steps.counted, add-mul c.next.new.self.count 1 g.G.Digest.size),
      (λ ts s.
          let h = inv.3 ts s in
          let n = next_of _ _ _ h.rest h.left steps in
          let whole : c.whole.result.now ≡ encode n.first = c.whole.ensures ∙ n.handed.whole in
          let few : length c.whole.result.now ≤ most = subst (λ (x : List ℕ). length x ≤ most) (sym whole) (few_bytes n.first n.handed.valid.0 n.handed.valid.1) in
          let digest : Put c.loop-element.area c.put_digest-stop.new.area c.loop-element.stop (g.G.Digest.value (encode n.first)) c.put_digest-stop.result =
          subst (λ (x : List ℕ). Put c.loop-element.area c.put_digest-stop.new.area c.loop-element.stop (g.G.Digest.value x) c.put_digest-stop.result) whole (put.digest few) in
          next_done _ (Digested g.G.Digest.value c.args.area.now c.put_digest-stop.new.area c.put_digest-stop.result) _ _ _ ts h n
          (digested_more g.G.Digest.value _ _ _ _ _ h.done n.first h.held digest)),
    )

pub returns : goal.returns
returns g c = λ ts s. all_done _ _ _ ts (c.loop-element.invariant.3 ts s) c.in-None.ensures.steps
