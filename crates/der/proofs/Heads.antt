-- What `header_of` and `length_of` answer, by the places of the bytes.
use Rattle.std.proofs.Common.{◌≡◌, ℕ, ◌+◌, ◌*◌, ◌<◌, ◌≤◌, eqb, ltb, leb, List, [], ◌∷◌, length, get_or, drop, IfOk, Ok, Err, Result, arith, lit≤}
use lib.Bits.{bit_and}
use Rattle.std.proofs.lemmas.Bool.Decides.{nat_tests}
use Rattle.std.proofs.lemmas.Result.{MatchResult-at_ok}
use Rattle.std.proofs.lemmas.Bool.{cond_both, leb-true}
use Rattle.der.specs.declared.header.Header.{Header}
use Rattle.der.specs.declared.cause.Cause.{Cause}
use Rattle.der.specs.declared.cause.Cause.TheVariants.{LongLength}
use Rattle.der.specs.Head.{header_of, length_of, one_byte, two_bytes, fits}

pub at_zero : (tag : ℕ) (bs : List ℕ) → 3 ≤ length bs → get_or bs 0 0 ≡ 130 → get_or bs 1 0 ≡ 0 → get_or bs 2 0 < 256 →
    Err LongLength ≡ length_of tag bs
at_zero tag [] l e z s = absurd (omega arith)
at_zero tag (a ∷ []) l e z s = absurd (omega arith)
at_zero tag (a ∷ b ∷ []) l e z s = absurd (omega arith)
at_zero tag (a ∷ b ∷ x ∷ bs) l e z s = grind (arith, nat_tests)

pub at_tag : (bs rest : List ℕ) (r : Result Header Cause) → 1 ≤ length bs → (bit_and (get_or bs 0 0) 31 ≡ 31 → ⊥) →
    rest ≡ drop 1 bs → r ≡ length_of (get_or bs 0 0) rest → r ≡ header_of bs
at_tag [] rest r l h e q = absurd (omega arith)
at_tag (a ∷ bs) rest r l h e q = grind (arith, nat_tests)

-- the contents of a header end within the bytes
abbrev Within : ℕ → Result Header Cause → Type 0
Within n r = IfOk r (λ h. (2 ≤ h.head) × (h.head + h.size ≤ n))

fits_within : (tag head size n : ℕ) (rest : List ℕ) → 2 ≤ head → head + length rest ≡ n → Within n (fits tag head size rest)
fits_within tag head size n rest l e =
    cond_both (leb size (length rest)) _ _ (Within n) (λ t. (l, omega (arith, leb-true size (length rest) t))) (λ _. tt)

one_within : (tag n : ℕ) (rest : List ℕ) → 2 + length rest ≡ n → Within n (one_byte tag rest)
one_within tag n [] e = tt
one_within tag n (a ∷ rest) e = cond_both (ltb a 128) _ _ (Within n) (λ _. tt) (λ _. fits_within tag 3 a n rest (lit≤ tt) (omega arith))

two_within : (tag n : ℕ) (rest : List ℕ) → 2 + length rest ≡ n → Within n (two_bytes tag rest)
two_within tag n [] e = tt
two_within tag n (a ∷ []) e = tt
two_within tag n (a ∷ b ∷ rest) e =
    cond_both (ltb (256 * a + b) 256) _ _ (Within n) (λ _. tt) (λ _. fits_within tag 4 (256 * a + b) n rest (lit≤ tt) (omega arith))

length_within : (tag n : ℕ) (bs : List ℕ) → 1 + length bs ≡ n → Within n (length_of tag bs)
length_within tag n [] e = tt
length_within tag n (l ∷ rest) e =
    cond_both (ltb l 128) _ _ (Within n) (λ _. fits_within tag 2 l n rest (lit≤ tt) (omega arith))
    (λ _. cond_both (eqb l 128) _ _ (Within n) (λ _. tt)
    (λ _. cond_both (eqb l 129) _ _ (Within n) (λ _. one_within tag n rest (omega arith))
    (λ _. cond_both (eqb l 130) _ _ (Within n) (λ _. two_within tag n rest (omega arith)) (λ _. tt))))

all_within : (bs : List ℕ) → Within (length bs) (header_of bs)
all_within [] = tt
all_within (tag ∷ rest) =
    cond_both (eqb (bit_and tag 31) 31) _ _ (Within (length (tag ∷ rest))) (λ _. tt) (λ _. length_within tag (length (tag ∷ rest)) rest (omega arith))

pub header_within : (bs : List ℕ) (h : Header) → header_of bs ≡ Ok h → (2 ≤ h.head) × (h.head + h.size ≤ length bs)
header_within bs h e = MatchResult-at_ok (λ h. (2 ≤ h.head) × (h.head + h.size ≤ length bs)) (λ _. Unit {0}) h e (all_within bs)
