-- Two digits at a time.
use Rattle.std.proofs.Common.{◌≡◌, ℕ, suc, ◌+◌, ◌-◌, ◌*◌, ◌≤◌, List, [], ◌∷◌, ◌++◌, length, get_or, take, drop, Some, None, Option, sym, refl, ap, ◌∙◌, arith}
use Rattle.std.proofs.lemmas.List.{take_all, append_assoc}
use Rattle.hex_digits.specs.Digits.{value_of, with_byte, bytes_of}

-- bytes in front of those that are left
abbrev pub with_all : List ℕ → Option (List ℕ) → Option (List ℕ)
with_all front None = None
with_all front (Some bytes) = Some (front ++ bytes)

pub none_in_front : (bytes : Option (List ℕ)) → bytes ≡ with_all [] bytes
none_in_front None = refl
none_in_front (Some bytes) = refl

one_more : (front : List ℕ) (h l : ℕ) (bytes : Option (List ℕ)) → with_all front (with_byte (Some h) (Some l) bytes) ≡ with_all (front ++ (h * 16 + l) ∷ []) bytes
one_more front h l None = refl
one_more front h l (Some bytes) = ap Some (sym (append_assoc front ((h * 16 + l) ∷ []) bytes))

two_first : (text : List ℕ) → 2 ≤ length text → text ≡ get_or text 0 0 ∷ get_or text 1 0 ∷ take (length text - 2) (drop 2 text)
two_first [] l = absurd (omega arith)
two_first (h ∷ []) l = absurd (omega arith)
two_first (h ∷ low ∷ rest) l = ap (λ (x : List ℕ). h ∷ low ∷ x) (sym (take_all (suc (suc (length rest)) - 2) rest (omega arith)))

module _ (front text : List ℕ) (n : 2 ≤ length text) (high low : Option ℕ) (p : high ≡ value_of (get_or text 0 0)) (q : low ≡ value_of (get_or text 1 0)) where
  rest : List ℕ
  rest = take (length text - 2) (drop 2 text)

  opened : bytes_of text ≡ with_byte high low (bytes_of rest)
  unfolding rest
  opened =
      ap bytes_of (two_first text n) ∙ ap (λ (v : Option ℕ). with_byte v (value_of (get_or text 1 0)) (bytes_of rest)) (sym p)
      ∙ ap (λ (v : Option ℕ). with_byte high v (bytes_of rest)) (sym q)

  pub next_byte : (h l : ℕ) → high ≡ Some h → low ≡ Some l → with_all front (bytes_of text) ≡ with_all (front ++ (h * 16 + l) ∷ []) (bytes_of (take (length text - 2) (drop 2 text)))
  unfolding rest
  next_byte h l a b =
      ap (with_all front) (opened ∙ ap (λ (v : Option ℕ). with_byte v low (bytes_of rest)) a ∙ ap (λ (v : Option ℕ). with_byte (Some h) v (bytes_of rest)) b)
      ∙ one_more front h l (bytes_of rest)
