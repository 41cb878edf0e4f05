-- What fills the last block. Assumes nothing.
use Rattle.std.proofs.Common.{◌≡◌, ℕ, zero, suc, ◌+◌, ◌-◌, ◌*◌, ◌%◌, ◌<◌, List, [], ◌∷◌, ◌++◌, length, get_or, take, set, replicate, bit_or, sym, refl, ap, ◌∙◌, arith, length-append}
use lib.ListN.{length-replicate}
use Rattle.std.proofs.lemmas.List.{append_assoc, get_or-replicate, replicate-append-replicate, take-replicate, take_more_set}
use Rattle.std.specs.List.{flat_map}
use Rattle.sha3.specs.Pad.{bits_of, pad, Bitwise, Whole}
use Rattle.sha3.specs.Sha3.{ending, tail}

-- the first byte and the last, at the front of an array: one byte where they fall together
pub laid : (k : ℕ) → k < 136 → take (k + 1) (set (6 ∷ replicate 135 0) k (bit_or (get_or (6 ∷ replicate 135 0) k 0) 128)) ≡ ending k
laid zero h = refl
laid (suc j) h =
    let array : List ℕ = 6 ∷ replicate 135 0 in
    let zeros : get_or array (suc j) 0 ≡ 0 = get_or-replicate 135 j 0 0 (omega arith) in
    ap (λ v. take (suc j + 1) (set array (suc j) (bit_or v 128))) zeros
    ∙ take_more_set array (suc j) 128 h
    ∙ ap (λ z. 6 ∷ z ++ 128 ∷ []) (take-replicate j 135 0 (omega arith))

-- zero bytes are zero bits
bits_zeros : (k : ℕ) → flat_map bits_of (replicate k 0 ++ 0x80 ∷ []) ≡ replicate (8 * k + 7) 0 ++ 1 ∷ []
bits_zeros zero = refl
bits_zeros (suc k) =
    let e : 8 + (8 * k + 7) ≡ 8 * suc k + 7 = omega arith in
    ap (λ z. replicate 8 0 ++ z) (bits_zeros k)
    ∙ sym (append_assoc (replicate 8 0) (replicate (8 * k + 7) 0) (1 ∷ []))
    ∙ ap (λ z. z ++ 1 ∷ []) (replicate-append-replicate 8 (8 * k + 7) 0)
    ∙ ap (λ m. replicate m 0 ++ 1 ∷ []) e

-- the bits of an ending of more than one byte
bits_ending : (k j : ℕ) → j ≡ 5 + (8 * k + 7) → flat_map bits_of (ending (suc k)) ≡ 0 ∷ 1 ∷ 1 ∷ replicate j 0 ++ 1 ∷ []
bits_ending k j e =
    ap (λ z. 0 ∷ 1 ∷ 1 ∷ replicate 5 0 ++ z) (bits_zeros k)
    ∙ ap (λ z. 0 ∷ 1 ∷ 1 ∷ z) (sym (append_assoc (replicate 5 0) (replicate (8 * k + 7) 0) (1 ∷ [])))
    ∙ ap (λ z. 0 ∷ 1 ∷ 1 ∷ z ++ 1 ∷ []) (replicate-append-replicate 5 (8 * k + 7) 0)
    ∙ ap (λ m. 0 ∷ 1 ∷ 1 ∷ replicate m 0 ++ 1 ∷ []) (sym e)

ending_bitwise : (n k : ℕ) → 135 - n % 136 ≡ k → flat_map bits_of (ending k) ≡ 0 ∷ 1 ∷ pad 1088 (8 * n + 2)
ending_bitwise n zero h =
    let e : (1088 - (8 * n + 2 + 2) % 1088) % 1088 ≡ 4 = omega arith in
    ap (λ j. 0 ∷ 1 ∷ 1 ∷ replicate j 0 ++ 1 ∷ []) (sym e)
ending_bitwise n (suc k) h = bits_ending k _ (omega arith)

pub padded_bitwise : Bitwise
unfolding tail
padded_bitwise n = ending_bitwise n (135 - n % 136) refl

pub length_ending : (k : ℕ) → length (ending k) ≡ k + 1
length_ending zero = refl
length_ending (suc k) = omega (arith, length-append {A = ℕ} (replicate k 0) (0x80 ∷ []), length-replicate {A = ℕ} k 0)

pub padded_whole : Whole
unfolding tail
padded_whole n = omega (arith, length_ending (135 - n % 136))
