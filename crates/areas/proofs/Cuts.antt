-- Parts that end where there are no more bytes.
use Rattle.std.proofs.Common.{◌≡◌, ℕ, ◌-◌, ◌<◌, ◌≤◌, min, List, length, take, drop, sym, ap, ◌∙◌, ⊎_elim, arith, length-drop, take_all}
use Rattle.std.proofs.lemmas.Bool.{cases_lt}

-- a part that passes the end of its list ends there
pub take_to_end : (xs : List ℕ) (from to end : ℕ) → end ≡ min to (length xs) → take (end - from) (drop from xs) ≡ take (to - from) (drop from xs)
take_to_end xs from to end e =
    let long : length xs < to → take (end - from) (drop from xs) ≡ take (to - from) (drop from xs) = λ h.
    let here : length (drop from xs) ≤ end - from = simp length-drop (omega arith) in
    let there : length (drop from xs) ≤ to - from = simp length-drop (omega arith) in
    take_all _ _ here ∙ sym (take_all _ _ there) in
    let short : to ≤ length xs → take (end - from) (drop from xs) ≡ take (to - from) (drop from xs) = λ h.
    let same : end ≡ to = omega arith in
    ap (λ k. take (k - from) (drop from xs)) same in
    ⊎_elim long short (cases_lt (length xs) to)
