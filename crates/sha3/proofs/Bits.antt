-- Bits the other way, and sums of lanes. Assumes nothing.
use Rattle.std.proofs.Common.{◌≡◌, ℕ, ◌-◌, ◌%◌, ◌^◌, ◌<◌, ◌≤◌, sym, ap, ◌∙◌, arith}
use lib.Bits.{bit_and, bit_or, bit_xor, and_mask, or_add_and, xor_add_and, xor_assoc, xor_comm, xor_self, xor_zero_r, xor_lt}
use Rattle.sha3.specs.Turned.{ones}

-- a lane with every bit the other way
abbrev pub flip : ℕ → ℕ
flip x = bit_xor x ones

pub not_flip : (x : ℕ) → x < 2 ^ 64 → ones - x ≡ flip x
not_flip x h =
    let a : bit_and x ones ≡ x % 2 ^ 64 = and_mask x 64 in
    omega (arith, a, xor_add_and x ones)

pub flip_flip : (x : ℕ) → flip (flip x) ≡ x
flip_flip x = xor_assoc x ones ones ∙ ap (bit_xor x) (xor_self ones) ∙ xor_zero_r x

pub flip_xor : (a t : ℕ) → flip (bit_xor a t) ≡ bit_xor (flip a) t
flip_xor a t = xor_assoc a t ones ∙ ap (bit_xor a) (xor_comm t ones) ∙ sym (xor_assoc a ones t)

pub xor_flip : (a t : ℕ) → bit_xor a (flip t) ≡ bit_xor (flip a) t
xor_flip a t = sym (xor_assoc a t ones) ∙ flip_xor a t

pub flip_lt : (x : ℕ) → x < 2 ^ 64 → flip x < 2 ^ 64
flip_lt x h = xor_lt 64 x ones h (omega arith)

-- what is in neither
pub or_flip : (b c : ℕ) → b < 2 ^ 64 → c < 2 ^ 64 → bit_or b c ≡ flip (bit_and (flip b) (flip c))
or_flip b c hb hc =
    let x : bit_xor (flip b) (flip c) ≡ bit_xor b c = xor_flip (flip b) c ∙ ap (λ z. bit_xor z c) (flip_flip b) in
    let b' = not_flip b hb in
    let c' = not_flip c hc in
    let s = xor_add_and (flip b) (flip c) in
    let t = xor_add_and b c in
    let u = or_add_and b c in
    let e : bit_and (flip b) (flip c) ≡ ones - bit_or b c = omega arith in
    let small : bit_and (flip b) (flip c) < 2 ^ 64 = omega arith in
    let whole : bit_or b c ≤ ones = omega arith in
    let d : ones - bit_and (flip b) (flip c) ≡ bit_or b c = omega arith in
    sym d ∙ not_flip (bit_and (flip b) (flip c)) small
