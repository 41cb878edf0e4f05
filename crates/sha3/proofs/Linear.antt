-- θ, ρ and π of a sum of states are the sums of what they make of each. Assumes nothing.
use Rattle.std.proofs.Common.{◌≡◌, ℕ, zero, suc, ◌+◌, ◌-◌, ◌*◌, ◌/◌, ◌%◌, ◌^◌, ◌<◌, List, [], ◌∷◌, map, length, get_or, sym, refl, ap, ◌∙◌, subst, ⊎_elim, add-zero, arith, lit<}
use native.Mathlib.Nat.{mul-mod_left}
use lib.Bits.{bit_or, bit_xor, or_self, or_shifted, xor_assoc, xor_comm, xor_lt, xor_shr, xor_mod, xor_block}
use Rattle.std.proofs.lemmas.Nat.{mod-pow-add, shl-shr, shr_below}
use Rattle.std.proofs.lemmas.Bool.{cases_lt}
use Rattle.std.specs.List.{range_with_len, AllByRecursion}
use Rattle.sha3.specs.Keccak.{lane, each, rotl, offsets, C, D, θ, ρ, π}
use Rattle.sha3.specs.Sha3.{mixed}

-- the first and the third, the second and the fourth
interchange : (a b c d : ℕ) → bit_xor (bit_xor a b) (bit_xor c d) ≡ bit_xor (bit_xor a c) (bit_xor b d)
interchange a b c d =
    xor_assoc a b (bit_xor c d)
    ∙ ap (bit_xor a) (sym (xor_assoc b c d) ∙ ap (λ z. bit_xor z d) (xor_comm b c) ∙ xor_assoc c b d)
    ∙ sym (xor_assoc a c (bit_xor b d))

-- `rotl`, by a number below 64
abbrev turn : ℕ → ℕ → ℕ
turn k x = bit_or ((x * 2 ^ k) % 2 ^ 64) (x / 2 ^ ((64 - k) % 64))

turn_none : (x : ℕ) → x < 2 ^ 64 → turn 0 x ≡ x
turn_none x h =
    let a : (x * 2 ^ 0) % 2 ^ 64 ≡ x = omega arith in
    let b : x / 2 ^ 0 ≡ x = omega arith in
    ap (λ z. bit_or z (x / 2 ^ 0)) a ∙ ap (bit_or x) b ∙ or_self x

-- the low part goes up, and the high part down
turn_parts : (j k x : ℕ) → j + k ≡ 64 → 0 < k → 0 < j → x < 2 ^ 64 → turn k x ≡ x % 2 ^ j * 2 ^ k + x / 2 ^ j
turn_parts j k x e pos pos' h =
    let up : (x * 2 ^ k) % 2 ^ 64 ≡ x % 2 ^ j * 2 ^ k =
    ap (λ n. (x * 2 ^ k) % 2 ^ n) (sym e)
    ∙ mod-pow-add (x * 2 ^ k) j k
    ∙ simp (shl-shr, mul-mod_left, add-zero) in
    let down : (64 - k) % 64 ≡ j = omega arith in
    let turned : 64 ≡ k + j = omega arith in
    let room : x / 2 ^ j < 2 ^ k = shr_below x k j (subst (λ n. x < 2 ^ n) turned h) in
    ap (λ z. bit_or z (x / 2 ^ ((64 - k) % 64))) up
    ∙ ap (λ n. bit_or (x % 2 ^ j * 2 ^ k) (x / 2 ^ n)) down
    ∙ or_shifted (x % 2 ^ j) k (x / 2 ^ j) room

turn_xor : (k x y : ℕ) → k < 64 → x < 2 ^ 64 → y < 2 ^ 64 → turn k (bit_xor x y) ≡ bit_xor (turn k x) (turn k y)
turn_xor k x y small hx hy =
    let hz : bit_xor x y < 2 ^ 64 = xor_lt 64 x y hx hy in
    let none : k ≡ 0 → turn k (bit_xor x y) ≡ bit_xor (turn k x) (turn k y) = λ e.
    ap (λ n. turn n (bit_xor x y)) e
    ∙ turn_none (bit_xor x y) hz
    ∙ sym (ap (λ n. bit_xor (turn n x) (turn n y)) e ∙ ap (λ z. bit_xor z (turn 0 y)) (turn_none x hx) ∙ ap (bit_xor x) (turn_none y hy)) in
    let some : 0 < k → turn k (bit_xor x y) ≡ bit_xor (turn k x) (turn k y) = λ pos.
    let j = 64 - k in
    let e : j + k ≡ 64 = omega arith in
    let pos' : 0 < j = omega arith in
    let e' : 64 ≡ k + j = omega arith in
    let rx : x / 2 ^ j < 2 ^ k = shr_below x k j (subst (λ n. x < 2 ^ n) e' hx) in
    let ry : y / 2 ^ j < 2 ^ k = shr_below y k j (subst (λ n. y < 2 ^ n) e' hy) in
    turn_parts j k (bit_xor x y) e pos pos' hz
    ∙ ap (λ z. z * 2 ^ k + bit_xor x y / 2 ^ j) (xor_mod x y j)
    ∙ ap (λ z. bit_xor (x % 2 ^ j) (y % 2 ^ j) * 2 ^ k + z) (xor_shr x y j)
    ∙ sym (ap (λ z. bit_xor z (turn k y)) (turn_parts j k x e pos pos' hx)
    ∙ ap (bit_xor (x % 2 ^ j * 2 ^ k + x / 2 ^ j)) (turn_parts j k y e pos pos' hy)
    ∙ xor_block k (x % 2 ^ j) (y % 2 ^ j) (x / 2 ^ j) (y / 2 ^ j) rx ry) in
    ⊎_elim (λ l. some l) (λ l. none (omega arith)) (cases_lt 0 k)

rotl_xor : (n x y : ℕ) → x < 2 ^ 64 → y < 2 ^ 64 → rotl n (bit_xor x y) ≡ bit_xor (rotl n x) (rotl n y)
rotl_xor n x y hx hy = turn_xor (n % 64) x y (omega arith) hx hy

-- every lane has 64 bits
abbrev pub Small : List ℕ → Type 0
Small s = (i : ℕ) → get_or s i 0 < 2 ^ 64

pub small_from_all : (s : List ℕ) → AllByRecursion (λ x. x < 2 ^ 64) s → Small s
small_from_all [] h i = lit< tt
small_from_all (x ∷ s) h zero = h.0
small_from_all (x ∷ s) h (suc i) = small_from_all s h.1 i

get_d_mixed : (s m : List ℕ) → length s ≡ length m → (i : ℕ) → get_or (mixed s m) i 0 ≡ bit_xor (get_or s i 0) (get_or m i 0)
get_d_mixed [] [] e i = refl
get_d_mixed [] (b ∷ m) e i = absurd (omega arith)
get_d_mixed (a ∷ s) [] e i = absurd (omega arith)
get_d_mixed (a ∷ s) (b ∷ m) e zero = refl
get_d_mixed (a ∷ s) (b ∷ m) e (suc i) = get_d_mixed s m (omega arith) i

mixed_map : (f g : ℕ → ℕ) (l : List ℕ) → mixed (map f l) (map g l) ≡ map (λ i. bit_xor (f i) (g i)) l
mixed_map f g [] = refl
mixed_map f g (x ∷ l) = ap (λ z. bit_xor (f x) (g x) ∷ z) (mixed_map f g l)

map_same : (f g : ℕ → ℕ) (l : List ℕ) → ((i : ℕ) → f i ≡ g i) → map f l ≡ map g l
map_same f g [] h = refl
map_same f g (x ∷ l) h = ap (λ z. z ∷ map f l) (h x) ∙ ap (λ z. g x ∷ z) (map_same f g l h)

-- a sum of two sums
both : {z w : ℕ} (a b c d : ℕ) → z ≡ bit_xor a b → w ≡ bit_xor c d → bit_xor z w ≡ bit_xor (bit_xor a c) (bit_xor b d)
both {z} {w} a b c d p q = ap (λ v. bit_xor v w) p ∙ ap (bit_xor (bit_xor a b)) q ∙ interchange a b c d

-- lane by lane
each_sum : (f g h : ℕ → ℕ → ℕ) → ((x y : ℕ) → f x y ≡ bit_xor (g x y) (h x y)) → each f ≡ mixed (each g) (each h)
each_sum f g h e =
    map_same (λ i. f (i % 5) (i / 5)) (λ i. bit_xor (g (i % 5) (i / 5)) (h (i % 5) (i / 5))) (range_with_len 0 25) (λ i. e (i % 5) (i / 5))
    ∙ sym (mixed_map (λ i. g (i % 5) (i / 5)) (λ i. h (i % 5) (i / 5)) (range_with_len 0 25))

C_small : (s : List ℕ) → Small s → (x : ℕ) → C s x < 2 ^ 64
unfolding C
C_small s h x =
    xor_lt 64 _ _ (xor_lt 64 _ _ (xor_lt 64 _ _ (xor_lt 64 _ _ (h (5 * 0 + x)) (h (5 * 1 + x))) (h (5 * 2 + x))) (h (5 * 3 + x))) (h (5 * 4 + x))

module _ (s m : List ℕ) (e : length s ≡ length m) where
  lane_sum : (x y : ℕ) → lane (mixed s m) x y ≡ bit_xor (lane s x y) (lane m x y)
  lane_sum x y = get_d_mixed s m e (5 * y + x)

  pub π-sum : π (mixed s m) ≡ mixed (π s) (π m)
  unfolding π
  π-sum =
      each_sum (λ x y. lane (mixed s m) ((x + 3 * y) % 5) x) (λ x y. lane s ((x + 3 * y) % 5) x) (λ x y. lane m ((x + 3 * y) % 5) x)
      (λ x y. lane_sum ((x + 3 * y) % 5) x)

module _ (s m : List ℕ) (e : length s ≡ length m) (hs : Small s) (hm : Small m) where
  C_sum : (x : ℕ) → C (mixed s m) x ≡ bit_xor (C s x) (C m x)
  unfolding C
  C_sum x =
      let two = both (lane s x 0) (lane m x 0) (lane s x 1) (lane m x 1) (lane_sum s m e x 0) (lane_sum s m e x 1) in
      let three = both _ _ (lane s x 2) (lane m x 2) two (lane_sum s m e x 2) in
      let four = both _ _ (lane s x 3) (lane m x 3) three (lane_sum s m e x 3) in
      both _ _ (lane s x 4) (lane m x 4) four (lane_sum s m e x 4)

  D_sum : (x : ℕ) → D (mixed s m) x ≡ bit_xor (D s x) (D m x)
  unfolding D
  D_sum x =
      let l = (x + 4) % 5 in
      let r = (x + 1) % 5 in
      both (C s l) (C m l) (rotl 1 (C s r)) (rotl 1 (C m r)) (C_sum l)
      (ap (rotl 1) (C_sum r) ∙ rotl_xor 1 (C s r) (C m r) (C_small s hs r) (C_small m hm r))

  pub θ-sum : θ (mixed s m) ≡ mixed (θ s) (θ m)
  unfolding θ
  θ-sum =
      each_sum (λ x y. bit_xor (lane (mixed s m) x y) (D (mixed s m) x)) (λ x y. bit_xor (lane s x y) (D s x)) (λ x y. bit_xor (lane m x y) (D m x))
      (λ x y. both (lane s x y) (lane m x y) (D s x) (D m x) (lane_sum s m e x y) (D_sum x))

  pub ρ-sum : ρ (mixed s m) ≡ mixed (ρ s) (ρ m)
  unfolding ρ
  ρ-sum =
      each_sum (λ x y. rotl (lane offsets x y) (lane (mixed s m) x y)) (λ x y. rotl (lane offsets x y) (lane s x y)) (λ x y. rotl (lane offsets x y) (lane m x y))
      (λ x y. ap (rotl (lane offsets x y)) (lane_sum s m e x y) ∙ rotl_xor (lane offsets x y) (lane s x y) (lane m x y) (hs (5 * y + x)) (hm (5 * y + x)))
