-- No entry is unmatched exactly when each has its element, and one that is found is the first.
use Rattle.std.proofs.Common.{◌≡◌, ℕ, zero, suc, ◌+◌, ◌<◌, Bool, true, false, cond, ◌⊎◌, List, [], ◌∷◌, map, take, Some, None, Option, sym, refl, ap, ◌∙◌, subst, inl, inr, arith}
use Rattle.std.proofs.ByRecursion.{has_append_right}
use Rattle.std.proofs.lemmas.Slice.Eq.{bytes_eq-Decides}
use Rattle.std.proofs.lemmas.Bool.{cond-true}
use Rattle.std.specs.List.{ContainsAt as Has, AllByRecursion, slice_get}
use Rattle.std.specs.Str.{bytes_eq}
use Rattle.stamp_model.specs.declared.lists.ListName.{ListName}
use Rattle.stamp_model.specs.declared.lists.ListName.TheVariants.{Certificates, Revocations, Attributes}
use Rattle.stamp_model.specs.Numbers.{list_number}
use Rattle.stamp_model.specs.Indexes.{Index, entries_for}
use Rattle.stamp_model.specs.Covering.{Matched}
use Rattle.matching.specs.declared.row.Side.TheVariants.{Outside, Inside}
use Rattle.matching.specs.declared.unmatched.Unmatched.{Unmatched}
use Rattle.matching.specs.Lists.{holds}
use Rattle.matching.specs.Unmatched.{first_missing_of, in_list, unmatched_in, or_else, first_unmatched_of}
use Rattle.matching.specs.Laws.{AllMatched, NoneUnmatched, IsFirst, FoundIsFirst, InsideTells}

-- the test is exact
pub holds_has : (xs : List (List ℕ)) (e : List ℕ) → holds xs e ≡ true → Has xs e
holds_has [] e q = absurd (let z : ◌≡◌ {A = ℕ} 0 1 = cc in omega arith)
holds_has (x ∷ xs) e q = by (bytes_eq x e) refl (holds_has xs e) q
  where
    by : (b : Bool) → bytes_eq x e ≡ b → (holds xs e ≡ true → Has xs e) → cond b true (holds xs e) ≡ true → Has (x ∷ xs) e
    by true s f q = (0, omega arith, (λ d. (bytes_eq-Decides x e).0 s))
    by false s f q = has_append_right (x ∷ []) xs e (f q)

has_cases : (x : List ℕ) (xs : List (List ℕ)) (e : List ℕ) → Has (x ∷ xs) e → (x ≡ e) ⊎ Has xs e
has_cases x xs e (zero, l, at) = inl (at [])
has_cases x xs e (suc k, l, at) = inr (k, omega arith, at)

pub has_holds : (xs : List (List ℕ)) (e : List ℕ) → Has xs e → holds xs e ≡ true
has_holds [] e (k, l, at) = absurd (omega arith)
has_holds (x ∷ xs) e h = by (bytes_eq x e) refl (has_holds xs e) (has_cases x xs e h)
  where
    by : (b : Bool) → bytes_eq x e ≡ b → (Has xs e → holds xs e ≡ true) → (x ≡ e) ⊎ Has xs e → cond b true (holds xs e) ≡ true
    by true s f c = refl
    by false s f (inl q) = absurd (let z : ◌≡◌ {A = Bool} true false = sym ((bytes_eq-Decides x e).1 q) ∙ s in let y : ◌≡◌ {A = ℕ} 0 1 = cc in omega arith)
    by false s f (inr h) = f h

-- none is missing exactly when all are there
module _ (digests : List (List ℕ)) where
  none_all : (n : ℕ) (es : List (List ℕ)) → first_missing_of digests n es ≡ None → AllByRecursion (Has digests) es
  none_all n [] q = tt
  none_all n (e ∷ es) q = by (holds digests e) refl (none_all (n + 1) es) q
    where
      by : (b : Bool) → holds digests e ≡ b → (first_missing_of digests (n + 1) es ≡ None → AllByRecursion (Has digests) es) → cond b (first_missing_of digests (n + 1) es) (Some n) ≡ None →
          Has digests e × AllByRecursion (Has digests) es
      by true s f q = (holds_has digests e s, f q)
      by false s f q = absurd (let z : ◌≡◌ {A = ℕ} 0 1 = cc in omega arith)

  all_none : (n : ℕ) (es : List (List ℕ)) → AllByRecursion (Has digests) es → first_missing_of digests n es ≡ None
  all_none n [] a = refl
  all_none n (e ∷ es) (h, a) = cond-true (holds digests e) _ _ (has_holds digests e h) ∙ all_none (n + 1) es a

  -- the first that is missing
  pub record Missing (n : ℕ) (es : List (List ℕ)) (m : ℕ) : Type 0 where
    pub place : ℕ
    pub number : m ≡ n + place
    pub entry : List ℕ
    pub there : slice_get es place ≡ Some entry
    pub absent : Has digests entry → ⊥
    pub before : AllByRecursion (Has digests) (take place es)

  missing_is : (n : ℕ) (es : List (List ℕ)) (m : ℕ) → first_missing_of digests n es ≡ Some m → Missing n es m
  missing_is n [] m q = absurd (let z : ◌≡◌ {A = ℕ} 0 1 = cc in omega arith)
  missing_is n (e ∷ es) m q = by (holds digests e) refl (missing_is (n + 1) es m) q
    where
      by : (b : Bool) → holds digests e ≡ b → (first_missing_of digests (n + 1) es ≡ Some m → Missing (n + 1) es m) → cond b (first_missing_of digests (n + 1) es) (Some n) ≡ Some m → Missing n (e ∷ es) m
      by true s f q =
          let r = f q in
          record { place = suc r.place; number = omega (arith, r.number); entry = r.entry; there = r.there; absent = r.absent; before = (holds_has digests e s, r.before) }
      by false s f q =
          let z : n ≡ m = cc in
          record {
            place = 0;
            number = omega arith;
            entry = e;
            there = refl;
            absent = λ h. let y : ◌≡◌ {A = Bool} true false = sym (has_holds digests e h) ∙ s in let w : ◌≡◌ {A = ℕ} 0 1 = cc in omega arith;
            before = tt;
          }

none_in : (list : ListName) (o : Option ℕ) → in_list list o ≡ None → o ≡ None
none_in list None q = refl
none_in list (Some n) q = absurd (let z : ◌≡◌ {A = ℕ} 0 1 = cc in omega arith)

none_both : (a b : Option Unmatched) → or_else a b ≡ None → (a ≡ None) × (b ≡ None)
none_both None b q = (refl, q)
none_both (Some u) b q = absurd (let z : ◌≡◌ {A = ℕ} 0 1 = cc in omega arith)

module _ (D : List ℕ → List ℕ) (elements : ListName → List (List ℕ)) (x : Index) where
  none_matched : (list : ListName) → unmatched_in D elements x list ≡ None → AllMatched D elements x list
  none_matched list q = none_all (map D (elements list)) 0 (entries_for x list) (none_in list _ q)

  matched_none : (list : ListName) → AllMatched D elements x list → unmatched_in D elements x list ≡ None
  matched_none list a = ap (in_list list) (all_none (map D (elements list)) 0 (entries_for x list) a)

  none_all_matched : first_unmatched_of D elements x ≡ None → (list : ListName) → AllMatched D elements x list
  none_all_matched q Certificates = none_matched Certificates (none_both _ _ q).0
  none_all_matched q Revocations = none_matched Revocations (none_both _ _ (none_both (unmatched_in D elements x Certificates) _ q).1).0
  none_all_matched q Attributes = none_matched Attributes (none_both (unmatched_in D elements x Revocations) _ (none_both (unmatched_in D elements x Certificates) _ q).1).1

  all_matched_none : ((list : ListName) → AllMatched D elements x list) → first_unmatched_of D elements x ≡ None
  all_matched_none a =
      ap (λ (o : Option Unmatched). or_else o (or_else (unmatched_in D elements x Revocations) (unmatched_in D elements x Attributes))) (matched_none Certificates (a Certificates))
      ∙ ap (λ (o : Option Unmatched). or_else o (unmatched_in D elements x Attributes)) (matched_none Revocations (a Revocations)) ∙ matched_none Attributes (a Attributes)

  -- an entry that is found in its list
  in_its_list : (list : ListName) (u : Unmatched) → in_list list (first_missing_of (map D (elements list)) 0 (entries_for x list)) ≡ Some u →
      ((earlier : ListName) → list_number earlier < list_number list → AllMatched D elements x earlier) → IsFirst D elements x u
  in_its_list list u q before = by (first_missing_of (map D (elements list)) 0 (entries_for x list)) refl q
    where
      by : (o : Option ℕ) → first_missing_of (map D (elements list)) 0 (entries_for x list) ≡ o → in_list list o ≡ Some u → IsFirst D elements x u
      by None s q = absurd (let z : ◌≡◌ {A = ℕ} 0 1 = cc in omega arith)
      by (Some n) s q =
          let m = missing_is (map D (elements list)) 0 (entries_for x list) n s in
          let e : n ≡ m.place = omega (arith, m.number) in
          let same : ◌≡◌ {A = Unmatched} (record { list = list; entry = n }) u = cc in
          subst (IsFirst D elements x) same (record {
            entry = m.entry;
            there = ap (slice_get (entries_for x list)) e ∙ m.there;
            unmatched = m.absent;
            before = subst (λ (k : ℕ). AllByRecursion (Matched D (elements list)) (take k (entries_for x list))) (sym e) m.before;
            earlier = before;
          })

  no_earlier : (earlier : ListName) → list_number earlier < 1 → AllMatched D elements x earlier
  no_earlier Certificates l = absurd (omega arith)
  no_earlier Revocations l = absurd (omega arith)
  no_earlier Attributes l = absurd (omega arith)

  one_earlier : AllMatched D elements x Certificates → (earlier : ListName) → list_number earlier < 2 → AllMatched D elements x earlier
  one_earlier a Certificates l = a
  one_earlier a Revocations l = absurd (omega arith)
  one_earlier a Attributes l = absurd (omega arith)

  two_earlier : AllMatched D elements x Certificates → AllMatched D elements x Revocations → (earlier : ListName) → list_number earlier < 3 → AllMatched D elements x earlier
  two_earlier a b Certificates l = a
  two_earlier a b Revocations l = b
  two_earlier a b Attributes l = absurd (omega arith)

  found_first : (u : Unmatched) → first_unmatched_of D elements x ≡ Some u → IsFirst D elements x u
  found_first u q = first (unmatched_in D elements x Certificates) (unmatched_in D elements x Revocations) refl refl q
    where
      first : (a b : Option Unmatched) → unmatched_in D elements x Certificates ≡ a → unmatched_in D elements x Revocations ≡ b → or_else a (or_else b (unmatched_in D elements x Attributes)) ≡ Some u → IsFirst D elements x u
      first (Some v) b p r q = in_its_list Certificates u (p ∙ q) no_earlier
      first None (Some w) p r q = in_its_list Revocations u (r ∙ q) (one_earlier (none_matched Certificates p))
      first None None p r q = in_its_list Attributes u q (two_earlier (none_matched Certificates p) (none_matched Revocations r))

pub none_unmatched : NoneUnmatched
none_unmatched D elements x = (none_all_matched D elements x, all_matched_none D elements x)

pub found_is_first : FoundIsFirst
found_is_first D elements x u q = found_first D elements x u q

pub inside_tells : InsideTells
inside_tells entries digest = (by (holds entries digest) refl, (λ h. cond-true (holds entries digest) _ _ (has_holds entries digest h)))
  where
    by : (b : Bool) → holds entries digest ≡ b → cond b Inside Outside ≡ Inside → Has entries digest
    by true s q = holds_has entries digest s
    by false s q = absurd (let z : ◌≡◌ {A = ℕ} 0 1 = cc in omega arith)
