-- The header of an element, byte by byte.
use Rattle.std.specs.Prelude.{ℕ, ◌+◌, ◌*◌, cond, List, [], ◌∷◌, length, Ok, Err, Result, ◌==◌, bit_and, nat_le, nat_lt}
use Rattle.der.specs.declared.header.Header.{Header}
use Rattle.der.specs.declared.cause.Cause.{Cause}
use Rattle.der.specs.declared.cause.Cause.TheVariants.{Missing, HighTag, Indefinite, HugeLength, LongLength}

-- `size` bytes of contents after a header of `head` bytes, `rest` being all that the enclosing end leaves
abbrev pub fits : ℕ → ℕ → ℕ → List ℕ → Result Header Cause
fits tag head size rest = cond (nat_le size (length rest)) (Ok (record { tag = tag; head = head; size = size })) (Err Missing)

abbrev pub one_byte : ℕ → List ℕ → Result Header Cause
one_byte tag [] = Err Missing
one_byte tag (a ∷ rest) = cond (nat_lt a 128) (Err LongLength) (fits tag 3 a rest)

abbrev pub two_bytes : ℕ → List ℕ → Result Header Cause
two_bytes tag [] = Err Missing
two_bytes tag (a ∷ []) = Err Missing
two_bytes tag (a ∷ b ∷ rest) = cond (nat_lt (256 * a + b) 256) (Err LongLength) (fits tag 4 (256 * a + b) rest)

abbrev pub length_of : ℕ → List ℕ → Result Header Cause
length_of tag [] = Err Missing
length_of tag (l ∷ rest) =
    cond (nat_lt l 128) (fits tag 2 l rest)
    (cond (l == 128) (Err Indefinite)
    (cond (l == 129) (one_byte tag rest)
    (cond (l == 130) (two_bytes tag rest) (Err HugeLength))))

abbrev pub header_of : List ℕ → Result Header Cause
header_of [] = Err Missing
header_of (tag ∷ rest) = cond (bit_and tag 31 == 31) (Err HighTag) (length_of tag rest)
