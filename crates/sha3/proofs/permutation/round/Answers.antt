use Rattle.std.proofs.Common.{refl, ap, ◌∙◌, subst, rules}
use Rattle.sha3.specs.Keccak.{Rnd, ρ, π, χ, ι}
use Rattle.sha3.specs.Sha3.{mixed}
use Rattle.sha3.specs.States.{lanes}
use Rattle.sha3.specs.Turned.{before, righted}
use Rattle.sha3.proofs.Keeping.{linear_kept, ι-righted}
use Rattle.sha3.proofs.Linear.{Small, small_from_all}
use Rattle.sha3.proofs.permutation.round.Goals as goal

pub returns : goal.returns
unfolding Rnd
returns c =
    let s = lanes c.args.s in
    let k = c.args.constant in
    let hs : Small s = small_from_all s (search rules) in
    let ht : Small (lanes c.theta.result) = small_from_all (lanes c.theta.result) (search rules) in
    ap righted c.iota.ensures
    ∙ ι-righted k c.chi.result
    ∙ ap (ι k) c.chi.ensures
    ∙ ap (λ z. ι k (χ (mixed z before))) (c.pi.ensures ∙ ap π (c.rho.ensures ∙ ap ρ c.theta.ensures))
    ∙ ap (λ z. ι k (χ z)) (linear_kept s refl hs (subst Small c.theta.ensures ht))
