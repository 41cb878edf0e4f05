-- What the answer of `take` tells, and joined lists.
use Rattle.std.proofs.Common.{◌≡◌, ℕ, ◌+◌, ◌<◌, ◌≤◌, List, [], ◌∷◌, ◌++◌, length, get_or, take, drop, Ok, Err, Result, sym, refl, ap, ◌∙◌, ⊎_elim, arith, length-append, take-append-drop, w8, Fits}
use Rattle.std.specs.List.{flat_map}
use Rattle.std.proofs.ByRecursion.{All-from_get_or}
use Rattle.std.proofs.lemmas.List.{append-nil, take_at, take_more}
use Rattle.std.proofs.lemmas.Bool.{cases_lt}
use Rattle.std.proofs.lemmas.Grind.{flat_map-append}
use Rattle.digest.specs.Bytes.{Bytes}
use Rattle.digest.specs.Took.{Took, most}
use Rattle.digest.specs.declared.refusal.Refusal.{Refusal}
use Rattle.digest.specs.declared.refusal.Refusal.TheVariants.{LongInput}

-- what `c.typed` says of a slice of bytes
pub bytes_from_typed : (xs : List ℕ) → ((i : ℕ) → Fits w8 (get_or xs i 0)) → Bytes xs
bytes_from_typed xs h = All-from_get_or (λ b. b < 256) xs 0 (λ i _. (h i).fits)

module _ {S : Type 0} (stands : S → List ℕ → Type 0) (is : S) (block xs : List ℕ) (r : Result Unit Refusal) (t : Took stands is block xs r) where
  pub took_ok : {u : Unit {0}} → r ≡ Ok u → (length xs + length block ≤ most) × stands is (xs ++ block)
  took_ok p =
      ⊎_elim (λ h. cc ((t.over h).0)) (λ h. (h, (t.fits h).1)) (cases_lt most (length xs + length block))

  pub took_err : {e : Refusal} → r ≡ Err e → (most < length xs + length block) × (r ≡ Err LongInput)
  took_err p =
      ⊎_elim (λ h. (h, (t.over h).0)) (λ h. cc ((t.fits h).0)) (cases_lt most (length xs + length block))

-- one piece more
pub joined_next : {X A : Type 0} (f : X → List A) (xs : List X) (i : ℕ) (d : X) → i < length xs → flat_map f (take (i + 1) xs) ≡ flat_map f (take i xs) ++ f (get_or xs i d)
joined_next f xs i d h =
    ap (flat_map f) (take_more xs i d h) ∙ flat_map-append f (take i xs) (get_or xs i d ∷ []) ∙ ap (λ z. flat_map f (take i xs) ++ z) (append-nil (f (get_or xs i d)))

-- a front is no longer than the whole
pub joined_front : {X A : Type 0} (f : X → List A) (xs : List X) (i : ℕ) → length (flat_map f (take i xs)) ≤ length (flat_map f xs)
joined_front f xs i =
    let e : flat_map f xs ≡ flat_map f (take i xs) ++ flat_map f (drop i xs) = ap (flat_map f) (sym (take-append-drop i xs)) ∙ flat_map-append f (take i xs) (drop i xs) in
    omega (arith, ap length e, length-append (flat_map f (take i xs)) (flat_map f (drop i xs)))

-- the first pieces are a front of the whole
pub joined_front_is : {X A : Type 0} (f : X → List A) (xs : List X) (i : ℕ) → take (length (flat_map f (take i xs))) (flat_map f xs) ≡ flat_map f (take i xs)
joined_front_is f xs i =
    let e : flat_map f xs ≡ flat_map f (take i xs) ++ flat_map f (drop i xs) = ap (flat_map f) (sym (take-append-drop i xs)) ∙ flat_map-append f (take i xs) (drop i xs) in
    ap (take (length (flat_map f (take i xs)))) e ∙ take_at (flat_map f (take i xs)) (flat_map f (drop i xs)) (length (flat_map f (take i xs))) refl

pub joined_next_length : {X A : Type 0} (f : X → List A) (xs : List X) (i : ℕ) (d : X) → i < length xs → length (flat_map f (take (i + 1) xs)) ≡ length (flat_map f (take i xs)) + length (f (get_or xs i d))
joined_next_length f xs i d h = ap length (joined_next f xs i d h) ∙ length-append (flat_map f (take i xs)) (f (get_or xs i d))
