use Rattle.std.proofs.Common.{◌≡◌, get_or, sym, refl, ap, ◌∙◌, arith}
use Rattle.sha3.specs.Keccak.{Rnd, constants, rounds, keccak}
use Rattle.sha3.specs.States.{lanes}
use Rattle.sha3.specs.Turned.{righted}
use Rattle.sha3.proofs.Keeping.{righted_twice}
use Rattle.sha3.proofs.Steps.{rounds_more}
use Rattle.sha3.proofs.permutation.permute.Goals as goal

pub loop-constant-init : goal.loop-constant-init
unfolding rounds
loop-constant-init c = refl

pub loop-constant-preserved : goal.loop-constant-preserved
loop-constant-preserved c =
    c.round-t.ensures
    ∙ ap (Rnd (get_or constants c.loop-constant.constant-index 0)) c.loop-constant.invariant
    ∙ sym (rounds_more c.loop-constant.constant-index (righted (lanes c.turn_kept-t.result)))

pub returns : goal.returns
unfolding keccak
returns c =
    let e : c.loop-constant.constant-index ≡ 24 = omega arith in
    c.turn_kept.ensures
    ∙ c.loop-constant.invariant
    ∙ ap (λ n. rounds n (righted (lanes c.turn_kept-t.result))) e
    ∙ ap (λ z. rounds 24 (righted z)) c.turn_kept-t.ensures
    ∙ ap (rounds 24) (righted_twice c.args.s)
