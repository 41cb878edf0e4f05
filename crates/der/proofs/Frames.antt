-- A header that is read is the shortest one of its contents.
use Rattle.std.proofs.Common.{◌≡◌, ℕ, suc, ◌+◌, ◌*◌, ◌/◌, ◌%◌, ◌<◌, ◌≤◌, eqb, ltb, leb, List, [], ◌∷◌, ◌++◌, length, take, drop, IfOk, Err, Result, sym, refl, ap, ◌∙◌, subst, suc-add, zero-add, arith, lit≤}
use lib.Bits.{bit_and}
use Rattle.std.proofs.lemmas.List.{length-take-le, drop_at, length-append}
use Rattle.std.proofs.lemmas.Bool.{cond_both, leb-true, ltb-true, ltb-false, eqb-true, eqb-false, cond-true, cond-false, lt-ltb, le-ltb}
use Rattle.der.specs.declared.header.Header.{Header}
use Rattle.der.specs.declared.cause.Cause.{Cause}
use Rattle.der.specs.declared.cause.Cause.TheVariants.{Missing, HighTag, LongLength}
use Rattle.der.specs.Bytes.{Bytes}
use Rattle.der.specs.Head.{header_of, length_of, one_byte, two_bytes, fits}
use Rattle.der.specs.Trees.{length_bytes, framed}
use Rattle.der.specs.Faults.{contents}

pub record Framed (bs : List ℕ) (h : Header) : Type 0 where
  pub low : bit_and h.tag 31 ≡ 31 → ⊥
  pub least : 2 ≤ h.head
  pub within : h.head + h.size ≤ length bs
  pub short : h.size ≤ 65535
  pub written : take (h.head + h.size) bs ≡ framed h.tag (contents h bs)

take_past : (pre rest : List ℕ) (n : ℕ) → take (length pre + n) (pre ++ rest) ≡ pre ++ take n rest
take_past [] rest n = rw zero-add refl
take_past (x ∷ pre) rest n = rw suc-add (ap {B = List ℕ} (λ r. x ∷ r) (take_past pre rest n))

written_at : (tag size : ℕ) (pre rest : List ℕ) → size ≤ length rest → pre ≡ tag ∷ length_bytes size →
    take (length pre + size) (pre ++ rest) ≡ framed tag (take size (drop (length pre) (pre ++ rest)))
written_at tag size pre rest l e =
    take_past pre rest size
    ∙ ap (λ (p : List ℕ). p ++ take size rest) e
    ∙ ap (λ (n : ℕ). (tag ∷ length_bytes n) ++ take size rest) (sym (length-take-le size rest l))
    ∙ ap (λ (b : List ℕ). framed tag (take size b)) (sym (drop_at pre rest (length pre) refl))

abbrev pub Good : List ℕ → Result Header Cause → Type 0
Good bs r = IfOk r (Framed bs)

fits_framed : (tag size : ℕ) (pre rest : List ℕ) → (bit_and tag 31 ≡ 31 → ⊥) → 2 ≤ length pre → size ≤ 65535 → pre ≡ tag ∷ length_bytes size →
    Good (pre ++ rest) (fits tag (length pre) size rest)
fits_framed tag size pre rest low least short e =
    cond_both (leb size (length rest)) _ _ (Good (pre ++ rest))
    (λ t. let l : size ≤ length rest = leb-true size (length rest) t in
    record { low = low; least = least; within = simp length-append (omega arith); short = short; written = written_at tag size pre rest l e })
    (λ _. tt)

one_byte_lem : (n : ℕ) → n < 128 → n ∷ [] ≡ length_bytes n
one_byte_lem n l = sym (cond-true (ltb n 128) _ _ (lt-ltb n 128 l))

two_bytes_lem : (n : ℕ) → 128 ≤ n → n < 256 → 129 ∷ n ∷ [] ≡ length_bytes n
two_bytes_lem n l m = sym (cond-false (ltb n 128) _ _ (le-ltb n 128 l) ∙ cond-true (ltb n 256) _ _ (lt-ltb n 256 m))

three_bytes : (a b : ℕ) → b < 256 → 256 ≤ 256 * a + b → 130 ∷ a ∷ b ∷ [] ≡ length_bytes (256 * a + b)
three_bytes a b l m =
    let n : ℕ = 256 * a + b in
    let q : a ≡ (256 * a + b) / 256 = omega arith in
    let r : b ≡ (256 * a + b) % 256 = omega arith in
    ap (λ (x : ℕ). 130 ∷ x ∷ b ∷ []) q ∙ ap (λ (y : ℕ). 130 ∷ n / 256 ∷ y ∷ []) r
    ∙ sym (cond-false (ltb n 128) _ _ (le-ltb n 128 (omega arith)) ∙ cond-false (ltb n 256) _ _ (le-ltb n 256 m))

one_framed : (tag : ℕ) (rest : List ℕ) → (bit_and tag 31 ≡ 31 → ⊥) → Bytes rest → Good (tag ∷ 129 ∷ rest) (one_byte tag rest)
one_framed tag [] low t = tt
one_framed tag (a ∷ rest) low t =
    cond_both (ltb a 128) (Err LongLength) (fits tag 3 a rest) (Good (tag ∷ 129 ∷ a ∷ rest)) (λ _. tt)
    (λ e. fits_framed tag a (tag ∷ 129 ∷ a ∷ []) rest low (lit≤ tt) (omega (arith, t 0))
    (ap {B = List ℕ} (λ b. tag ∷ b) (two_bytes_lem a (ltb-false a 128 e) (t 0))))

two_framed : (tag : ℕ) (rest : List ℕ) → (bit_and tag 31 ≡ 31 → ⊥) → Bytes rest → Good (tag ∷ 130 ∷ rest) (two_bytes tag rest)
two_framed tag [] low t = tt
two_framed tag (a ∷ []) low t = tt
two_framed tag (a ∷ b ∷ rest) low t =
    cond_both (ltb (256 * a + b) 256) (Err LongLength) (fits tag 4 (256 * a + b) rest) (Good (tag ∷ 130 ∷ a ∷ b ∷ rest)) (λ _. tt)
    (λ e. fits_framed tag (256 * a + b) (tag ∷ 130 ∷ a ∷ b ∷ []) rest low (lit≤ tt) (omega (arith, t 0, t 1))
    (ap {B = List ℕ} (λ x. tag ∷ x) (three_bytes a b (t 1) (ltb-false (256 * a + b) 256 e))))

length_framed : (tag l : ℕ) (rest : List ℕ) → (bit_and tag 31 ≡ 31 → ⊥) → Bytes rest → Good (tag ∷ l ∷ rest) (length_of tag (l ∷ rest))
length_framed tag l rest low t =
    cond_both (ltb l 128) _ _ (Good (tag ∷ l ∷ rest))
    (λ e. fits_framed tag l (tag ∷ l ∷ []) rest low (lit≤ tt) (omega (arith, ltb-true l 128 e)) (ap {B = List ℕ} (λ x. tag ∷ x) (one_byte_lem l (ltb-true l 128 e))))
    (λ _. cond_both (eqb l 128) _ _ (Good (tag ∷ l ∷ rest)) (λ _. tt)
    (λ _. cond_both (eqb l 129) _ _ (Good (tag ∷ l ∷ rest))
    (λ e. subst (λ (x : ℕ). Good (tag ∷ x ∷ rest) (one_byte tag rest)) (sym (eqb-true l 129 e)) (one_framed tag rest low t))
    (λ _. cond_both (eqb l 130) _ _ (Good (tag ∷ l ∷ rest))
    (λ e. subst (λ (x : ℕ). Good (tag ∷ x ∷ rest) (two_bytes tag rest)) (sym (eqb-true l 130 e)) (two_framed tag rest low t))
    (λ _. tt))))

pub all_framed : (bs : List ℕ) → Bytes bs → Good bs (header_of bs)
all_framed [] t = tt
all_framed (tag ∷ []) t = cond_both (eqb (bit_and tag 31) 31) (Err HighTag) (Err Missing) (Good (tag ∷ [])) (λ _. tt) (λ _. tt)
all_framed (tag ∷ l ∷ rest) t =
    cond_both (eqb (bit_and tag 31) 31) (Err HighTag) (length_of tag (l ∷ rest)) (Good (tag ∷ l ∷ rest)) (λ _. tt)
    (λ e. length_framed tag l rest (eqb-false (bit_and tag 31) 31 e) (λ i. t (suc (suc i))))
