-- Searches among entries: for the first that is none of the digests, and for one digest.
use Rattle.std.proofs.Common.{◌≡◌, ℕ, suc, ◌+◌, Bool, true, false, cond, not, ◌||◌, ltb, List, [], ◌∷◌, map, length, Some, None, Option, refl, ap, ◌∙◌, arith}
use Rattle.std.proofs.lemmas.Bool.Decides.{nat_tests}
use Rattle.std.specs.Str.{bytes_eq}
use Rattle.der.specs.Trees.{body_of}
use Rattle.stamp_model.specs.declared.lists.ListName.{ListName}
use Rattle.stamp_model.specs.declared.lists.ListName.TheVariants.{Certificates, Revocations, Attributes}
use Rattle.stamp_model.specs.Indexes.{Index, entry_tree, entries_for}
use Rattle.index.specs.Standing.{entry_trees}
use Rattle.std.specs.List.{list_any, position_or_len}
use Rattle.matching.specs.declared.unmatched.Unmatched.{Unmatched}
use Rattle.matching.specs.Lists.{holds}
use Rattle.matching.specs.Unmatched.{first_missing_of, in_list, unmatched_in, or_else, first_unmatched_of}

-- one of the lists is these bytes, told by the first that is
pub any_holds : (xs : List (List ℕ)) (bytes : List ℕ) → list_any (λ x. bytes_eq x bytes) xs ≡ holds xs bytes
any_holds [] bytes = refl
any_holds (x ∷ xs) bytes = by (bytes_eq x bytes) ∙ ap (λ (b : Bool). cond (bytes_eq x bytes) true b) (any_holds xs bytes)
  where
    by : (b : Bool) → b || list_any (λ y. bytes_eq y bytes) xs ≡ cond b true (list_any (λ y. bytes_eq y bytes) xs)
    by true = refl
    by false = refl

-- the first entry that is none of the digests, told by its position
module _ (digests : List (List ℕ)) where
  abbrev missing : List ℕ → Bool
  missing x = not (holds digests x)

  abbrev told : ℕ → List (List ℕ) → Option ℕ
  told n xs = cond (ltb (position_or_len missing xs) (length xs)) (Some (n + position_or_len missing xs)) None

  missing_from : (n : ℕ) (xs : List (List ℕ)) → told n xs ≡ first_missing_of digests n xs
  missing_from n [] = refl
  missing_from n (x ∷ xs) = by (holds digests x) (missing_from (n + 1) xs)
    where
      place : Bool → ℕ
      place b = cond (not (not b)) (1 + position_or_len missing xs) 0

      by : (b : Bool) → told (n + 1) xs ≡ first_missing_of digests (n + 1) xs →
          cond (ltb (place b) (suc (length xs))) (Some (n + place b)) None ≡ cond b (first_missing_of digests (n + 1) xs) (Some n)
      by true e = grind (arith, nat_tests)
      by false e = grind (arith, nat_tests)

  pub position_missing : (xs : List (List ℕ)) → cond (ltb (position_or_len missing xs) (length xs)) (Some (position_or_len missing xs)) None ≡ first_missing_of digests 0 xs
  position_missing xs = ap (λ (k : ℕ). cond (ltb (position_or_len missing xs) (length xs)) (Some k) None) (omega arith) ∙ missing_from 0 xs

-- the contents of entries are the entries
pub bodies_are : (es : List (List ℕ)) → map body_of (map entry_tree es) ≡ es
bodies_are [] = refl
bodies_are (e ∷ es) = ap (λ (x : List (List ℕ)). e ∷ x) (bodies_are es)

module _ (D : List ℕ → List ℕ) (elements : ListName → List (List ℕ)) (x : Index) where
  -- what is found in a list
  abbrev pub FoundIn : ListName → Option Unmatched → Type 0
  FoundIn list r = r ≡ in_list list (first_missing_of (map D (elements list)) 0 (map body_of (entry_trees x list)))

  found_in : (list : ListName) (r : Option Unmatched) → FoundIn list r → r ≡ unmatched_in D elements x list
  found_in list r e = e ∙ ap (λ (es : List (List ℕ)). in_list list (first_missing_of (map D (elements list)) 0 es)) (bodies_are (entries_for x list))

  -- in the first list, in the second, or else in the third
  pub found_first : (u : Unmatched) → FoundIn Certificates (Some u) → Some u ≡ first_unmatched_of D elements x
  found_first u p = ap (λ (o : Option Unmatched). or_else o (or_else (unmatched_in D elements x Revocations) (unmatched_in D elements x Attributes))) (found_in Certificates (Some u) p)

  pub found_third : (r : Option Unmatched) → FoundIn Certificates None → FoundIn Revocations None → FoundIn Attributes r → r ≡ first_unmatched_of D elements x
  found_third r p q s =
      found_in Attributes r s ∙ ap (λ (o : Option Unmatched). or_else o (unmatched_in D elements x Attributes)) (found_in Revocations None q)
      ∙ ap (λ (o : Option Unmatched). or_else o (or_else (unmatched_in D elements x Revocations) (unmatched_in D elements x Attributes))) (found_in Certificates None p)

  pub found_second : (u : Unmatched) → FoundIn Certificates None → FoundIn Revocations (Some u) → Some u ≡ first_unmatched_of D elements x
  found_second u p q =
      ap (λ (o : Option Unmatched). or_else o (unmatched_in D elements x Attributes)) (found_in Revocations (Some u) q)
      ∙ ap (λ (o : Option Unmatched). or_else o (or_else (unmatched_in D elements x Revocations) (unmatched_in D elements x Attributes))) (found_in Certificates None p)
