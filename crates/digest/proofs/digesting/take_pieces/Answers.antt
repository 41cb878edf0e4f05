use Rattle.std.proofs.Common.{◌≡◌, ℕ, ◌+◌, ◌<◌, List, [], ◌++◌, length, take, Err, sym, refl, ap, ◌∙◌, subst, arith, length-append, take_all, Bor}
use Rattle.std.specs.List.{flat_map}
use Rattle.digest.specs.declared.refusal.Refusal.TheVariants.{LongInput}
use Rattle.std.proofs.lemmas.List.{append_assoc, append-nil}
use Rattle.std.proofs.lemmas.Result.{err_from_is_err_and}
use Rattle.digest.proofs.Taking.{took_ok, took_err, joined_next, joined_next_length, joined_front, joined_front_is}
use Rattle.digest.proofs.digesting.take_pieces.Goals as goal

none : Bor (List ℕ)
none = record { ref_ptr = (0, 0); now = [] }

pub loop-piece-init : goal.loop-piece-init
loop-piece-init g c = λ xs is small. (omega arith, subst (g.G.Digest.stands c.args.state.now) (sym (append-nil xs)) is)

pub loop-piece-preserved : goal.loop-piece-preserved
unfolding none
loop-piece-preserved g c = λ xs is small.
    let i = c.loop-piece.piece-index in
    let pieces = c.args.pieces.now in
    let took = took_ok _ _ _ _ _ (c.take.ensures _ (c.loop-piece.invariant xs is small).1) c.in_ok-take.was in
    let next = joined_next (λ p. p.now) pieces i none c.loop-piece-test.true in
    let more = joined_next_length (λ p. p.now) pieces i none c.loop-piece-test.true in
    let size = length-append xs (flat_map (λ p. p.now) (take i pieces)) in (
      omega (arith, took.0, more),
      subst (g.G.Digest.stands c.take.new.self) (append_assoc xs _ _ ∙ ap (λ z. xs ++ z) (sym next)) took.1,
    )

pub returns-in_err-take : goal.returns-in_err-take
unfolding none
returns-in_err-take g c = λ xs is small.
    let i = c.loop-piece.piece-index in
    let pieces = c.args.pieces.now in
    let all = flat_map (λ p. p.now) pieces in
    let front = flat_map (λ p. p.now) (take i pieces) in
    let took = c.take.ensures _ (c.loop-piece.invariant xs is small).1 in
    let failed = took_err _ _ _ _ _ took c.in_err-take.was in
    let p = err_from_is_err_and c.from_residual.result c.from_residual.ensures.1 in
    let answer : c.from_residual.result ≡ Err LongInput = p.1 ∙ ap Err p.2 ∙ sym c.in_err-take.was ∙ failed.1 in
    let more = joined_next_length (λ p. p.now) pieces i none c.loop-piece-test.true in
    let within = joined_front (λ p. p.now) pieces (i + 1) in
    let size = length-append xs front in
    let long : 16777216 < length xs + length all = omega (arith, failed.0, more, within, size) in
    record {
      fits = λ h. absurd (omega (arith, long, h));
      over = λ _. (
        answer,
        (length front, subst (λ z. g.G.Digest.stands c.take.new.self (xs ++ z)) (sym (joined_front_is (λ p. p.now) pieces i)) (took.over failed.0).1),
      );
    }

pub returns : goal.returns
returns g c = λ xs is small.
    let whole : take c.loop-piece.piece-index c.args.pieces.now ≡ c.args.pieces.now = take_all _ _ c.loop-piece-test.false in
    let inv = c.loop-piece.invariant xs is small in
    let size = ap (λ ps. length (flat_map (λ p. p.now) ps)) whole in
    record {
      fits = λ _. (refl, subst (λ ps. g.G.Digest.stands c.loop-piece.state (xs ++ flat_map (λ p. p.now) ps)) whole inv.1);
      over = λ h. absurd (omega (arith, inv.0, size, h));
    }
