-- Bytes in hexadecimal digits.
use Rattle.std.specs.Prelude.{ℕ, ◌+◌, ◌/◌, ◌%◌, cond, List, [], ◌∷◌, nat_lt}
use Rattle.std.specs.List.{flat_map}

-- the code of the digit of n: 0 to 9, then a to f
abbrev pub digit_for : ℕ → ℕ
digit_for n = cond (nat_lt n 10) (48 + n) (87 + n)

-- two digits for each byte, the high one first
abbrev pub hex_of : List ℕ → List ℕ
hex_of bytes = flat_map (λ b. digit_for (b / 16) ∷ digit_for (b % 16) ∷ []) bytes
