-- The state over a message that grows at its end. Assumes nothing.
use Rattle.std.proofs.Common.{◌≡◌, ℕ, zero, suc, ◌+◌, ◌*◌, ◌/◌, ◌%◌, ◌≤◌, List, ◌++◌, length, take, drop, sym, refl, ap, ◌∙◌, arith, length-append, length-drop, take_all}
use Rattle.std.proofs.lemmas.List.{drop-append-le, drop_at, take-append-le}
use Rattle.sha3.specs.declared.lanes.State.{State}
use Rattle.sha3.specs.Sha3.{absorb, chain}
use Rattle.sha3.specs.States.{lanes}
use Rattle.sha3.specs.Streams.{Chained}
use Rattle.sha3.proofs.Steps.{chain_more}

-- what comes after does not change the blocks before
chain_append : (q : ℕ) (xs ys : List ℕ) → 136 * q ≤ length xs → chain q (xs ++ ys) ≡ chain q xs
unfolding chain
chain_append zero xs ys h = refl
chain_append (suc q) xs ys h =
    let here : 136 * q ≤ length xs = omega arith in
    let room : 136 ≤ length (drop (136 * q) xs) = simp length-drop (omega arith) in
    ap (λ c. absorb c (take 136 (drop (136 * q) (xs ++ ys)))) (chain_append q xs ys here)
    ∙ ap (λ b. absorb (chain q xs) (take 136 b)) (drop-append-le (136 * q) xs ys here)
    ∙ ap (absorb (chain q xs)) (take-append-le 136 (drop (136 * q) xs) ys room)

-- one block more
pub chained_block : (s t : State) (xs block : List ℕ) → length xs % 136 ≡ 0 → length block ≡ 136 → lanes t ≡ absorb (lanes s) block → Chained s xs → Chained t (xs ++ block)
chained_block s t xs block whole full next is =
    let q = length xs / 136 in
    let size : length xs ≡ 136 * q = omega arith in
    let more : length (xs ++ block) / 136 ≡ q + 1 = omega (arith, length-append xs block) in
    let here : take 136 (drop (136 * q) (xs ++ block)) ≡ block = ap (take 136) (drop_at xs block (136 * q) size) ∙ take_all 136 block (omega arith) in
    next
    ∙ ap (λ c. absorb c block) (is ∙ sym (chain_append q xs block (omega arith)))
    ∙ ap (absorb (chain q (xs ++ block))) (sym here)
    ∙ sym (chain_more q (xs ++ block))
    ∙ ap (λ n. chain n (xs ++ block)) (sym more)
