-- Reading digits is the inverse of writing them.
use Rattle.std.proofs.Common.{◌≡◌, ℕ, ◌+◌, ◌*◌, ◌/◌, ◌%◌, ◌<◌, List, [], ◌∷◌, Some, None, Option, refl, ap, ◌∙◌, arith}
use Rattle.std.proofs.lemmas.Bool.Decides.{nat_tests}
use Rattle.digest_line.specs.Hex.{digit_for, hex_of}
use Rattle.hex_digits.specs.Digits.{value_of, with_byte, bytes_of}
use Rattle.hex_digits.specs.Laws.{WrittenIsRead, ReadWasWritten}

-- a digit that is written is read
digit_read : (n : ℕ) → n < 16 → value_of (digit_for n) ≡ Some n
digit_read n l = grind (arith, nat_tests)

-- a digit that is read was written
digit_written : (d v : ℕ) → value_of d ≡ Some v → (digit_for v ≡ d) × (v < 16)
digit_written d v e = (grind (arith, nat_tests), grind (arith, nat_tests))

pub written_is_read : WrittenIsRead
written_is_read [] a = refl
written_is_read (b ∷ bytes) (small, others) =
    let same : b / 16 * 16 + b % 16 ≡ b = omega arith in
    ap (λ (v : Option ℕ). with_byte v (value_of (digit_for (b % 16))) (bytes_of (hex_of bytes))) (digit_read (b / 16) (omega arith))
    ∙ ap (λ (v : Option ℕ). with_byte (Some (b / 16)) v (bytes_of (hex_of bytes))) (digit_read (b % 16) (omega arith))
    ∙ ap (with_byte (Some (b / 16)) (Some (b % 16))) (written_is_read bytes others) ∙ ap (λ (x : ℕ). Some (x ∷ bytes)) same

-- a byte of two digits that are read, in front of others
byte_written : (high low : ℕ) (rest : List ℕ) (h l : Option ℕ) (others : Option (List ℕ)) (bytes : List ℕ) → value_of high ≡ h → value_of low ≡ l →
    ((found : List ℕ) → others ≡ Some found → hex_of found ≡ rest) → with_byte h l others ≡ Some bytes → hex_of bytes ≡ high ∷ low ∷ rest
byte_written high low rest None l others bytes p q w e = absurd (let z : ◌≡◌ {A = ℕ} 0 1 = cc in omega arith)
byte_written high low rest (Some h) None others bytes p q w e = absurd (let z : ◌≡◌ {A = ℕ} 0 1 = cc in omega arith)
byte_written high low rest (Some h) (Some l) None bytes p q w e = absurd (let z : ◌≡◌ {A = ℕ} 0 1 = cc in omega arith)
byte_written high low rest (Some h) (Some l) (Some found) bytes p q w e =
    let (up, a) = digit_written high h p in
    let (down, b) = digit_written low l q in
    let is : bytes ≡ (h * 16 + l) ∷ found = cc in
    let first : (h * 16 + l) / 16 ≡ h = omega arith in
    let second : (h * 16 + l) % 16 ≡ l = omega arith in
    ap hex_of is ∙ ap (λ (x : ℕ). digit_for x ∷ digit_for ((h * 16 + l) % 16) ∷ hex_of found) first ∙ ap (λ (x : ℕ). digit_for h ∷ digit_for x ∷ hex_of found) second
    ∙ ap (λ (x : ℕ). x ∷ digit_for l ∷ hex_of found) up ∙ ap (λ (x : ℕ). high ∷ x ∷ hex_of found) down ∙ ap (λ (x : List ℕ). high ∷ low ∷ x) (w found refl)

pub read_was_written : ReadWasWritten
read_was_written [] bytes e = let z : bytes ≡ [] = cc in ap hex_of z
read_was_written (high ∷ []) bytes e = absurd (let z : ◌≡◌ {A = ℕ} 0 1 = cc in omega arith)
read_was_written (high ∷ low ∷ rest) bytes e = byte_written high low rest (value_of high) (value_of low) (bytes_of rest) bytes refl refl (read_was_written rest) e
