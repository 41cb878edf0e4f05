use Rattle.std.proofs.Common.{◌≡◌, ◌+◌, ◌-◌, ◌*◌, ◌≤◌, min, ◌++◌, length, take, drop, sym, refl, ap, ◌∙◌, subst, arith, length-append, length-drop, length-take, take_all, take-add, rules}
use Rattle.std.proofs.lemmas.List.{take_at, append_assoc, append-nil}
use Rattle.digest.proofs.Cuts.{take_short}
use Rattle.digest.proofs.Taking.{took_ok, took_err}
use Rattle.digest.proofs.digesting.take_source.Goals as goal

pub loop-i-init : goal.loop-i-init
loop-i-init g c = (refl, λ xs is _. subst (g.G.Digest.stands c.args.state.now) (sym (append-nil xs)) is)

pub loop-i-preserved : goal.loop-i-preserved
loop-i-preserved g c =
    let all = g.S.Source.bytes c.args.source.now in
    let place = 4096 * c.loop-i.i in
    let n = c.read_at-count.result in
    let many : n ≡ min 4096 (length all - place) = c.read_at-count.ensures.many ∙ ap (λ m. min m (length all - place)) c.loop-i.invariant.0 in
    let part : length (take n (drop place all)) ≡ n = simp (length-take, length-drop) (omega arith) in
    let got : take n c.read_at-count.new.block ≡ take n (drop place all) =
    ap (λ b. take n b) c.read_at-count.ensures.front ∙ take_at _ _ n (omega (arith, part)) in
    let more : place + 4096 ≡ 4096 * (c.loop-i.i + 1) = omega arith in (
      search rules,
      λ xs is few.
          let took = took_ok _ _ _ _ _ (c.take.ensures _ (c.loop-i.invariant.1 xs is few)) c.in_ok-take.was in
          let next : (xs ++ take place all) ++ take n c.read_at-count.new.block ≡ xs ++ take (4096 * (c.loop-i.i + 1)) all =
          ap (λ z. (xs ++ take place all) ++ z) (got ∙ take_short place 4096 n all many) ∙ append_assoc xs _ _
          ∙ ap (λ z. xs ++ z) (sym (take-add place 4096 all) ∙ ap (λ k. take k all) more) in
          subst (g.G.Digest.stands c.take.new.self) next took.1,
    )

pub returns-in_err-take : goal.returns-in_err-take
returns-in_err-take g c = λ xs is small.
    let all = g.S.Source.bytes c.args.source.now in
    let few = g.met.S.Source.few c.args.source.now in
    let place = 4096 * c.loop-i.i in
    let many = c.read_at-count.ensures.many in
    let took = took_err _ _ _ _ _ (c.take.ensures _ (c.loop-i.invariant.1 xs is small)) c.in_err-take.was in
    let before : length (xs ++ take place all) ≤ length xs + place = simp (length-append, length-take) (omega arith) in
    let now' : length (take c.read_at-count.result c.read_at-count.new.block) ≤ c.read_at-count.result = simp length-take (omega arith) in
    absurd (omega (arith, took.0))

pub returns : goal.returns
returns g c = λ xs is small.
    let whole : take (4096 * c.loop-i.i) (g.S.Source.bytes c.args.source.now) ≡ g.S.Source.bytes c.args.source.now =
    take_all _ _ (omega (arith, c.len.ensures)) in
    (refl, subst (λ z. g.G.Digest.stands c.loop-i.state (xs ++ z)) whole (c.loop-i.invariant.1 xs is small))
