-- Parts of lists that are cut where the list or a bound ends.
use Rattle.std.proofs.Common.{◌≡◌, ℕ, ◌+◌, ◌-◌, min, List, length, take, drop, sym, refl, ap, ◌∙◌, arith}
use Rattle.areas.proofs.Cuts.{take_to_end}

-- as many elements from a place on as a bound and the list allow
pub take_short : (place most n : ℕ) (xs : List ℕ) → n ≡ min most (length xs - place) → take n (drop place xs) ≡ take most (drop place xs)
take_short place most n xs e =
    let whole : min (place + most) (length xs) - place ≡ n = omega arith in
    let bound : place + most - place ≡ most = omega arith in
    ap (λ k. take k (drop place xs)) (sym whole) ∙ take_to_end xs place (place + most) (min (place + most) (length xs)) refl ∙ ap (λ k. take k (drop place xs)) bound
