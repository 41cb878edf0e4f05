-- The bytes that a text of hexadecimal digits gives.
use Rattle.std.specs.Prelude.{ℕ, ◌+◌, ◌-◌, ◌*◌, cond, List, [], ◌∷◌, Some, None, Option, nat_lt}

-- the value of a digit: 0 to 9, then a to f
abbrev pub value_of : ℕ → Option ℕ
value_of d =
    cond (nat_lt d 48) None
    (cond (nat_lt d 58) (Some (d - 48))
    (cond (nat_lt d 97) None
    (cond (nat_lt d 103) (Some (d - 97 + 10)) None)))

-- a byte of two digits, in front of others
abbrev pub with_byte : Option ℕ → Option ℕ → Option (List ℕ) → Option (List ℕ)
with_byte None low bytes = None
with_byte (Some h) None bytes = None
with_byte (Some h) (Some l) None = None
with_byte (Some h) (Some l) (Some bytes) = Some ((h * 16 + l) ∷ bytes)

-- two digits for each byte, the high one first; none where the text is not of that kind
abbrev pub bytes_of : List ℕ → Option (List ℕ)
bytes_of [] = Some []
bytes_of (h ∷ []) = None
bytes_of (h ∷ l ∷ rest) = with_byte (value_of h) (value_of l) (bytes_of rest)
