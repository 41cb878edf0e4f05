-- The hash value over a message that grows at its end.
use Rattle.std.proofs.Common.{◌≡◌, ℕ, zero, suc, ◌+◌, ◌*◌, ◌/◌, ◌%◌, ◌≤◌, List, ◌++◌, length, take, drop, sym, refl, ap, ◌∙◌, add-one, arith, length-append, length-drop, take_all}
use Rattle.std.proofs.lemmas.List.{drop-append-le, drop_at, take-append-le}
use Rattle.sha256.specs.declared.words.Words.{Words}
use Rattle.sha256.specs.Sha.{compress, H⁰, H}
use Rattle.sha256.specs.Streams.{Chained}

pub H_more : (n : ℕ) (s : Words) (xs : List ℕ) → H (n + 1) s xs ≡ compress (H n s xs) (take 64 (drop (64 * n) xs))
unfolding H
H_more n s xs = rw (add-one n) refl

-- what comes after does not change the blocks before
pub H_append : (q : ℕ) (s : Words) (xs ys : List ℕ) → 64 * q ≤ length xs → H q s (xs ++ ys) ≡ H q s xs
unfolding H
H_append zero s xs ys h = refl
H_append (suc q) s xs ys h =
    let here : 64 * q ≤ length xs = omega arith in
    let room : 64 ≤ length (drop (64 * q) xs) = simp length-drop (omega arith) in
    ap (λ c. compress c (take 64 (drop (64 * q) (xs ++ ys)))) (H_append q s xs ys here)
    ∙ ap (λ b. compress (H q s xs) (take 64 b)) (drop-append-le (64 * q) xs ys here)
    ∙ ap (compress (H q s xs)) (take-append-le 64 (drop (64 * q) xs) ys room)

-- one block more
pub chained_block : (words : Words) (xs block : List ℕ) → length xs % 64 ≡ 0 → length block ≡ 64 → Chained words xs → Chained (compress words block) (xs ++ block)
chained_block words xs block whole full is =
    let q = length xs / 64 in
    let size : length xs ≡ 64 * q = omega arith in
    let next : length (xs ++ block) / 64 ≡ q + 1 = omega (arith, length-append xs block) in
    let here : take 64 (drop (64 * q) (xs ++ block)) ≡ block = ap (take 64) (drop_at xs block (64 * q) size) ∙ take_all 64 block (omega arith) in
    ap (λ w. compress w block) (is ∙ sym (H_append q H⁰ xs block (omega arith)))
    ∙ ap (compress (H q H⁰ (xs ++ block))) (sym here)
    ∙ sym (H_more q H⁰ (xs ++ block))
    ∙ ap (λ n. H n H⁰ (xs ++ block)) (sym next)
