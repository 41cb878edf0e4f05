-- The forms of Maj and Ch that the code has, and the standard's: equal on words of 32 bits, bit by bit.
use Rattle.std.proofs.Common.{◌≡◌, ℕ, zero, suc, ◌+◌, ◌-◌, ◌*◌, ◌/◌, ◌%◌, ◌^◌, ◌<◌, sym, refl, ap, ◌∙◌, add-one, arith}
use lib.Bits.{bit_and, bit_xor, and_shr, xor_shr, and_mod, xor_mod}
use Rattle.std.proofs.lemmas.Nat.{div-add-mod', pow-add, shr_below}
use Rattle.sha256.specs.Sha.{Ch, Maj}

-- the form of Maj that the code has, and the standard's
abbrev short_maj : ℕ → ℕ → ℕ → ℕ
short_maj x y z = bit_xor (bit_and (bit_xor x y) (bit_xor y z)) y

abbrev long_maj : ℕ → ℕ → ℕ → ℕ
long_maj x y z = bit_xor (bit_xor (bit_and x y) (bit_and x z)) (bit_and y z)

half_and : (a b : ℕ) → bit_and a b / 2 ≡ bit_and (a / 2) (b / 2)
half_and a b = and_shr a b 1

half_xor : (a b : ℕ) → bit_xor a b / 2 ≡ bit_xor (a / 2) (b / 2)
half_xor a b = xor_shr a b 1

last_and : (a b : ℕ) → bit_and a b % 2 ≡ bit_and (a % 2) (b % 2)
last_and a b = and_mod a b 1

last_xor : (a b : ℕ) → bit_xor a b % 2 ≡ bit_xor (a % 2) (b % 2)
last_xor a b = xor_mod a b 1

by_digits : (a b : ℕ) → a / 2 ≡ b / 2 → a % 2 ≡ b % 2 → a ≡ b
by_digits a b high low = sym (div-add-mod' a 2) ∙ ap (λ n. n * 2 + a % 2) high ∙ ap (λ n. b / 2 * 2 + n) low ∙ div-add-mod' b 2

bits_Maj : (x y z : ℕ) → x < 2 → y < 2 → z < 2 → short_maj x y z ≡ long_maj x y z
bits_Maj zero zero zero _ _ _ = refl
bits_Maj zero zero (suc zero) _ _ _ = refl
bits_Maj zero (suc zero) zero _ _ _ = refl
bits_Maj zero (suc zero) (suc zero) _ _ _ = refl
bits_Maj (suc zero) zero zero _ _ _ = refl
bits_Maj (suc zero) zero (suc zero) _ _ _ = refl
bits_Maj (suc zero) (suc zero) zero _ _ _ = refl
bits_Maj (suc zero) (suc zero) (suc zero) _ _ _ = refl
bits_Maj (suc (suc x)) y z h _ _ = absurd (omega arith)
bits_Maj zero (suc (suc y)) z _ h _ = absurd (omega arith)
bits_Maj (suc zero) (suc (suc y)) z _ h _ = absurd (omega arith)
bits_Maj zero zero (suc (suc z)) _ _ h = absurd (omega arith)
bits_Maj zero (suc zero) (suc (suc z)) _ _ h = absurd (omega arith)
bits_Maj (suc zero) zero (suc (suc z)) _ _ h = absurd (omega arith)
bits_Maj (suc zero) (suc zero) (suc (suc z)) _ _ h = absurd (omega arith)

wide_Maj : (k x y z : ℕ) → x < 2 ^ k → y < 2 ^ k → z < 2 ^ k → short_maj x y z ≡ long_maj x y z
wide_Maj zero x y z hx hy hz =
    bits_Maj x y z (omega arith) (omega arith) (omega arith)
wide_Maj (suc k) x y z hx hy hz =
    let bx : x / 2 < 2 ^ k = shr_below x k 1 (rw (add-one k) hx) in
    let by : y / 2 < 2 ^ k = shr_below y k 1 (rw (add-one k) hy) in
    let bz : z / 2 < 2 ^ k = shr_below z k 1 (rw (add-one k) hz) in
    let high : short_maj x y z / 2 ≡ long_maj x y z / 2 = simp (half_xor, half_and) (wide_Maj k (x / 2) (y / 2) (z / 2) bx by bz) in
    let low : short_maj x y z % 2 ≡ long_maj x y z % 2 =
    simp (last_xor, last_and) (bits_Maj (x % 2) (y % 2) (z % 2) (omega arith) (omega arith) (omega arith)) in
    by_digits (short_maj x y z) (long_maj x y z) high low

pub majority_forms : (x y z : ℕ) → x < 2 ^ 32 → y < 2 ^ 32 → z < 2 ^ 32 → short_maj x y z ≡ Maj x y z
unfolding Maj
majority_forms x y z hx hy hz = wide_Maj 32 x y z hx hy hz

-- the form of Ch that the code has, and the standard's on words of k bits
abbrev short_ch : ℕ → ℕ → ℕ → ℕ
short_ch x y z = bit_xor z (bit_and x (bit_xor y z))

abbrev long_ch : ℕ → ℕ → ℕ → ℕ → ℕ
long_ch k x y z = bit_xor (bit_and x y) (bit_and (2 ^ k - 1 - x) z)

bits_Ch : (x y z : ℕ) → x < 2 → y < 2 → z < 2 → short_ch x y z ≡ bit_xor (bit_and x y) (bit_and (1 - x) z)
bits_Ch zero zero zero _ _ _ = refl
bits_Ch zero zero (suc zero) _ _ _ = refl
bits_Ch zero (suc zero) zero _ _ _ = refl
bits_Ch zero (suc zero) (suc zero) _ _ _ = refl
bits_Ch (suc zero) zero zero _ _ _ = refl
bits_Ch (suc zero) zero (suc zero) _ _ _ = refl
bits_Ch (suc zero) (suc zero) zero _ _ _ = refl
bits_Ch (suc zero) (suc zero) (suc zero) _ _ _ = refl
bits_Ch (suc (suc x)) y z h _ _ = absurd (omega arith)
bits_Ch zero (suc (suc y)) z _ h _ = absurd (omega arith)
bits_Ch (suc zero) (suc (suc y)) z _ h _ = absurd (omega arith)
bits_Ch zero zero (suc (suc z)) _ _ h = absurd (omega arith)
bits_Ch zero (suc zero) (suc (suc z)) _ _ h = absurd (omega arith)
bits_Ch (suc zero) zero (suc (suc z)) _ _ h = absurd (omega arith)
bits_Ch (suc zero) (suc zero) (suc (suc z)) _ _ h = absurd (omega arith)

wide_Ch : (k x y z : ℕ) → x < 2 ^ k → y < 2 ^ k → z < 2 ^ k → short_ch x y z ≡ long_ch k x y z
wide_Ch zero x y z hx hy hz =
    let ex : x ≡ 0 = omega arith in
    let ey : y ≡ 0 = omega arith in
    let ez : z ≡ 0 = omega arith in
    simp (ex, ey, ez)
wide_Ch (suc k) x y z hx hy hz =
    let twice : 2 ^ suc k ≡ 2 ^ k * 2 = ap (λ n. 2 ^ n) (sym (add-one k)) ∙ pow-add 2 k 1 in
    let bx : x / 2 < 2 ^ k = omega arith in
    let by : y / 2 < 2 ^ k = omega arith in
    let bz : z / 2 < 2 ^ k = omega arith in
    let half : (2 ^ suc k - 1 - x) / 2 ≡ 2 ^ k - 1 - x / 2 = omega arith in
    let last : (2 ^ suc k - 1 - x) % 2 ≡ 1 - x % 2 = omega arith in
    let high : short_ch x y z / 2 ≡ long_ch (suc k) x y z / 2 = simp (half_xor, half_and, half) (wide_Ch k (x / 2) (y / 2) (z / 2) bx by bz) in
    let low : short_ch x y z % 2 ≡ long_ch (suc k) x y z % 2 =
    simp (last_xor, last_and, last) (bits_Ch (x % 2) (y % 2) (z % 2) (omega arith) (omega arith) (omega arith)) in
    by_digits (short_ch x y z) (long_ch (suc k) x y z) high low

pub choose_forms : (x y z : ℕ) → x < 2 ^ 32 → y < 2 ^ 32 → z < 2 ^ 32 → short_ch x y z ≡ Ch x y z
unfolding Ch
choose_forms x y z hx hy hz = wide_Ch 32 x y z hx hy hz
