-- The words of the schedule, and one step of each definition that counts up.
use Rattle.std.proofs.Common.{◌≡◌, ℕ, zero, suc, ◌+◌, ◌-◌, ◌<◌, ◌≤◌, false, true, cond, ltb, List, [], ◌∷◌, ◌++◌, length, get_or, sym, refl, ap, ◌∙◌, ⊎_elim, add-one, arith, below_more, below_none, lit<, length-append}
use Rattle.std.proofs.lemmas.List.{get_or_append_left, get_or_at}
use Rattle.std.proofs.lemmas.Bool.{cases_lt, le-ltb, lt-ltb}
use Rattle.sha256.specs.declared.words.Words.{Words}
use Rattle.sha256.specs.Sha.{K, M, mixed, next_word, W, round, rounds}
use Rattle.sha256.specs.Windows.{Slid, word_at}

W_more : (block : List ℕ) (n : ℕ) → W block (n + 1) ≡ W block n ++ next_word block (W block n) n ∷ []
unfolding W
W_more block n = rw (add-one n) refl

length_W : (block : List ℕ) (n : ℕ) → length (W block n) ≡ n
unfolding W
length_W block zero = refl
length_W block (suc n) = length-append (W block n) (next_word block (W block n) n ∷ []) ∙ omega (arith, length_W block n)

-- the words that come later change none
pub word_of_W : (block : List ℕ) (n t : ℕ) → t < n → get_or (W block n) t 0 ≡ word_at block t
unfolding W word_at
word_of_W block zero t h = absurd (omega arith)
word_of_W block (suc n) t h =
    let before : t < n → get_or (W block (suc n)) t 0 ≡ word_at block t = λ l.
    let within : t < length (W block n) = omega (arith, length_W block n) in
    get_or_append_left (W block n) (next_word block (W block n) n ∷ []) 0 t within ∙ word_of_W block n t l in
    let last : n ≤ t → get_or (W block (suc n)) t 0 ≡ word_at block t = λ l.
    let e : suc n ≡ t + 1 = omega arith in
    ap (λ m. get_or (W block m) t 0) e in
    ⊎_elim before last (cases_lt t n)

-- the first sixteen words are the block's
pub word_first : (block : List ℕ) (k : ℕ) → k < 16 → M block k ≡ word_at block (0 + k)
unfolding word_at next_word
word_first block k h =
    let ws = W block k in
    let near : ltb k 16 ≡ true = lt-ltb k 16 h in
    let none : 0 + k ≡ k = omega arith in
    sym (ap (λ j. get_or (W block (j + 1)) j 0) none
    ∙ ap (λ l. get_or l k 0) (W_more block k)
    ∙ get_or_at ws (next_word block ws k) [] 0 k (length_W block k)
    ∙ ap (λ z. cond z (M block k) (mixed (get_or ws (k - 2) 0) (get_or ws (k - 7) 0) (get_or ws (k - 15) 0) (get_or ws (k - 16) 0))) near)

-- past the first sixteen a word is mixed of four before it
pub word_next : (block : List ℕ) (t : ℕ) → word_at block (t + 16) ≡ mixed (word_at block (t + 14)) (word_at block (t + 9)) (word_at block (t + 1)) (word_at block t)
unfolding word_at next_word
word_next block t =
    let ws = W block (t + 16) in
    let pick : (i j : ℕ) → i ≡ j → j < t + 16 → get_or ws i 0 ≡ word_at block j = λ i j e h. ap (λ k. get_or ws k 0) e ∙ word_of_W block (t + 16) j h in
    let far : ltb (t + 16) 16 ≡ false = le-ltb (t + 16) 16 (omega arith) in
    let a = pick (t + 16 - 2) (t + 14) (omega arith) (omega arith) in
    let b = pick (t + 16 - 7) (t + 9) (omega arith) (omega arith) in
    let c = pick (t + 16 - 15) (t + 1) (omega arith) (omega arith) in
    let d = pick (t + 16 - 16) t (omega arith) (omega arith) in
    ap (λ l. get_or l (t + 16) 0) (W_more block (t + 16))
    ∙ get_or_at ws (next_word block ws (t + 16)) [] 0 (t + 16) (length_W block (t + 16))
    ∙ ap (λ z. cond z (M block (t + 16)) (mixed (get_or ws (t + 16 - 2) 0) (get_or ws (t + 16 - 7) 0) (get_or ws (t + 16 - 15) 0) (get_or ws (t + 16 - 16) 0))) far
    ∙ ap (λ x. mixed x (get_or ws (t + 16 - 7) 0) (get_or ws (t + 16 - 15) 0) (get_or ws (t + 16 - 16) 0)) a
    ∙ ap (λ x. mixed (word_at block (t + 14)) x (get_or ws (t + 16 - 15) 0) (get_or ws (t + 16 - 16) 0)) b
    ∙ ap (λ x. mixed (word_at block (t + 14)) (word_at block (t + 9)) x (get_or ws (t + 16 - 16) 0)) c
    ∙ ap (λ x. mixed (word_at block (t + 14)) (word_at block (t + 9)) (word_at block (t + 1)) x) d

rounds_more : (n : ℕ) (s : Words) (ws : List ℕ) → rounds (n + 1) s ws ≡ round (rounds n s ws) (get_or K n 0) (get_or ws n 0)
unfolding rounds
rounds_more n s ws = rw (add-one n) refl

-- one round more, where the code counts
pub round_step : (s : Words) (block : List ℕ) (n m : ℕ) (v u : Words) (w : ℕ) → n < 64 → m ≡ n + 1 → v ≡ rounds n s (W block 64) → w ≡ word_at block n → u ≡ round v (get_or K n 0) w → u ≡ rounds m s (W block 64)
round_step s block n m v u w h e p q is =
    is
    ∙ ap (λ x. round x (get_or K n 0) w) p
    ∙ ap (round (rounds n s (W block 64)) (get_or K n 0)) (q ∙ sym (word_of_W block 64 n h))
    ∙ sym (rounds_more n s (W block 64))
    ∙ ap (λ k. rounds k s (W block 64)) (sym e)

-- one word more, where the code counts
pub word_step : (block : List ℕ) (n m a b c d x : ℕ) → m ≡ n + 16 → a ≡ word_at block (n + 14) → b ≡ word_at block (n + 9) → c ≡ word_at block (n + 1) → d ≡ word_at block n → x ≡ mixed a b c d → x ≡ word_at block m
word_step block n m a b c d x e p q r s is =
    is
    ∙ ap (λ z. mixed z b c d) p
    ∙ ap (λ z. mixed (word_at block (n + 14)) z c d) q
    ∙ ap (λ z. mixed (word_at block (n + 14)) (word_at block (n + 9)) z d) r
    ∙ ap (λ z. mixed (word_at block (n + 14)) (word_at block (n + 9)) (word_at block (n + 1)) z) s
    ∙ sym (word_next block n)
    ∙ ap (word_at block) (sym e)

-- the same word, where the code counts from another place
pub word_moved : (block : List ℕ) (n m x : ℕ) → x ≡ word_at block n → m ≡ n → x ≡ word_at block m
word_moved block n m x p e = p ∙ ap (word_at block) (sym e)

-- the window moved on by four words
pub slid_four : (block w : List ℕ) (n x0 x1 x2 x3 : ℕ) → Slid block n w → x0 ≡ word_at block (n + 16) → x1 ≡ word_at block (n + 17) → x2 ≡ word_at block (n + 18) → x3 ≡ word_at block (n + 19)
    → Slid block (n + 4) (get_or w 4 0 ∷ get_or w 5 0 ∷ get_or w 6 0 ∷ get_or w 7 0 ∷ get_or w 8 0 ∷ get_or w 9 0 ∷ get_or w 10 0 ∷ get_or w 11 0 ∷ get_or w 12 0 ∷ get_or w 13 0 ∷ get_or w 14 0 ∷ get_or w 15 0 ∷ x0 ∷ x1 ∷ x2 ∷ x3 ∷ [])
slid_four block w n x0 x1 x2 x3 h p0 p1 p2 p3 =
    let next : List ℕ = get_or w 4 0 ∷ get_or w 5 0 ∷ get_or w 6 0 ∷ get_or w 7 0 ∷ get_or w 8 0 ∷ get_or w 9 0 ∷ get_or w 10 0 ∷ get_or w 11 0 ∷ get_or w 12 0 ∷ get_or w 13 0 ∷ get_or w 14 0 ∷ get_or w 15 0 ∷ x0 ∷ x1 ∷ x2 ∷ x3 ∷ [] in
    let P : ℕ → Type 0 = λ k. get_or next k 0 ≡ word_at block (n + 4 + k) in
    let old : (k : ℕ) → k < 12 → get_or w (k + 4) 0 ≡ word_at block (n + 4 + k) = λ k l. word_moved block (n + (k + 4)) (n + 4 + k) _ (h (k + 4) (omega arith)) (omega arith) in
    let new' : (k x : ℕ) → x ≡ word_at block (n + (k + 4)) → x ≡ word_at block (n + 4 + k) = λ k x e. word_moved block (n + (k + 4)) (n + 4 + k) x e (omega arith) in
    let four : (k : ℕ) → k < 4 → P k = below_more P 3 (below_more P 2 (below_more P 1 (below_more P 0 (below_none P) (old 0 (lit< tt))) (old 1 (lit< tt))) (old 2 (lit< tt))) (old 3 (lit< tt)) in
    let eight : (k : ℕ) → k < 8 → P k = below_more P 7 (below_more P 6 (below_more P 5 (below_more P 4 four (old 4 (lit< tt))) (old 5 (lit< tt))) (old 6 (lit< tt))) (old 7 (lit< tt)) in
    let twelve : (k : ℕ) → k < 12 → P k = below_more P 11 (below_more P 10 (below_more P 9 (below_more P 8 eight (old 8 (lit< tt))) (old 9 (lit< tt))) (old 10 (lit< tt))) (old 11 (lit< tt)) in
    below_more P 15 (below_more P 14 (below_more P 13 (below_more P 12 twelve (new' 12 x0 p0)) (new' 13 x1 p1)) (new' 14 x2 p2)) (new' 15 x3 p3)
