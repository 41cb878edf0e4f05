-- A round on lanes as they are kept. Assumes nothing.
use Rattle.std.proofs.Common.{◌≡◌, ℕ, List, [], ◌∷◌, length, drop, sym, refl, ap, ◌∙◌, rules}
use lib.Bits.{bit_xor, xor_zero_r}
use Rattle.sha3.specs.declared.lanes.State.{State}
use Rattle.sha3.specs.Keccak.{C, D, θ, ρ, π, ι}
use Rattle.sha3.specs.Sha3.{mixed}
use Rattle.sha3.specs.States.{lanes}
use Rattle.sha3.specs.Turned.{ones, kept, before, righted}
use Rattle.sha3.proofs.Bits.{flip_flip}
use Rattle.sha3.proofs.Linear.{Small, small_from_all, θ-sum, ρ-sum, π-sum}

-- which lanes θ makes turned, and ρ leaves so
abbrev middle : List ℕ
middle = ones ∷ ones ∷ ones ∷ ones ∷ 0 ∷ ones ∷ 0 ∷ 0 ∷ 0 ∷ 0 ∷ ones ∷ 0 ∷ ones ∷ ones ∷ 0 ∷ ones ∷ 0 ∷ ones ∷ ones ∷ 0 ∷ 0 ∷ 0 ∷ 0 ∷ ones ∷ 0 ∷ []

θ-kept : θ kept ≡ middle
unfolding C D θ
θ-kept = refl

ρ-middle : ρ middle ≡ middle
unfolding ρ
ρ-middle = refl

π-middle : π middle ≡ before
unfolding π
π-middle = refl

small_kept : Small kept
small_kept = small_from_all kept (search rules)

small_middle : Small middle
small_middle = small_from_all middle (search rules)

length_θ : (s : List ℕ) → length (θ s) ≡ 25
unfolding θ
length_θ s = refl

length_ρ : (s : List ℕ) → length (ρ s) ≡ 25
unfolding ρ
length_ρ s = refl

-- before χ
pub linear_kept : (s : List ℕ) → length s ≡ 25 → Small s → Small (θ s) → mixed (π (ρ (θ s))) before ≡ π (ρ (θ (righted s)))
linear_kept s e hs hθ =
    sym (ap (λ z. π (ρ z)) (θ-sum s kept e hs small_kept ∙ ap (mixed (θ s)) θ-kept)
    ∙ ap π (ρ-sum (θ s) middle (length_θ s) hθ small_middle ∙ ap (mixed (ρ (θ s))) ρ-middle)
    ∙ π-sum (ρ (θ s)) middle (length_ρ (θ s))
    ∙ ap (mixed (π (ρ (θ s)))) π-middle)

-- the first lane is kept as it is
pub ι-righted : (c : ℕ) (s : State) → righted (ι c (lanes s)) ≡ ι c (righted (lanes s))
unfolding ι
ι-righted c s =
    let a = s.y0.x0 in
    ap (λ z. z ∷ drop 1 (righted (lanes s))) (xor_zero_r (bit_xor a c) ∙ ap (λ z. bit_xor z c) (sym (xor_zero_r a)))

pub righted_twice : (s : State) → righted (righted (lanes s)) ≡ lanes s
righted_twice s = simp (xor_zero_r, flip_flip)
