-- A run is taken part by part.
use Rattle.std.proofs.Common.{◌≡◌, ℕ, zero, suc, ◌-◌, ◌<◌, ◌≤◌, List, [], ◌∷◌, Some, None, Ok, Option, Result, sym, refl, ap, ◌∙◌, subst, arith}
use Rattle.std.specs.Result.{result_ok}
use Rattle.der.specs.declared.reader.Reader.{Reader}
use Rattle.fields.specs.Reads.{Reads}
use Rattle.fields.specs.Runs.{found, first_and, run_first, run_in, run_of}

module _ {X : Type 0} (stop : X → ℕ) (at end : ℕ) where
  -- what is found ends further on
  pub found_further : (x : X) (r : Result X ℕ) → found stop at end r ≡ Some x → (at < stop x) × (stop x ≤ end)
  found_further x r e = grind arith

  pub found_none : (r : Result X ℕ) → end ≤ at → found stop at end r ≡ None
  found_none r l = grind arith

  pub found_ok : (x : X) (r : Result X ℕ) → Ok x ≡ r → at < stop x → stop x ≤ end → found stop at end r ≡ Some x
  found_ok x r q l m = grind arith

module _ {X : Type 0} (reading : List ℕ → ℕ → ℕ → Result X ℕ) (stop : X → ℕ) (file : List ℕ) (end : ℕ) where
  abbrev upto : ℕ → ℕ → List X
  upto most at = run_first reading stop most file at end

  abbrev next_at : ℕ → Option X
  next_at at = found stop at end (reading file at end)

  next_same : (k j at : ℕ) (o : Option X) → next_at at ≡ o → ((x : X) → o ≡ Some x → upto k (stop x) ≡ upto j (stop x)) → upto (suc k) at ≡ upto (suc j) at
  next_same k j at None e same = ap (λ (o : Option X). first_and o (λ x. upto k (stop x))) e ∙ sym (ap (λ (o : Option X). first_and o (λ x. upto j (stop x))) e)
  next_same k j at (Some x) e same =
      ap (λ (o : Option X). first_and o (λ y. upto k (stop y))) e ∙ ap (λ (xs : List X). x ∷ xs) (same x refl)
      ∙ sym (ap (λ (o : Option X). first_and o (λ y. upto j (stop y))) e)

  -- as much fuel as there are bytes is enough, and more is no better
  enough : (k j at : ℕ) → end - at ≤ k → end - at ≤ j → upto k at ≡ upto j at
  enough zero zero at l m = refl
  enough zero (suc j) at l m = sym (ap (λ (o : Option X). first_and o (λ x. upto j (stop x))) (found_none stop at end (reading file at end) (omega (arith, l))))
  enough (suc k) zero at l m = ap (λ (o : Option X). first_and o (λ x. upto k (stop x))) (found_none stop at end (reading file at end) (omega (arith, m)))
  enough (suc k) (suc j) at l m =
      next_same k j at (next_at at) refl (λ x e. let f = found_further stop at end x (reading file at end) e in enough k j (stop x) (omega (arith, l, f.0, f.1)) (omega (arith, m, f.0, f.1)))

  -- one part more
  pub run_on : (at : ℕ) (x : X) → Ok x ≡ reading file at end → at < stop x → stop x ≤ end → run_in reading stop file at end ≡ x ∷ run_in reading stop file (stop x) end
  run_on at x q l m =
      let n : end - at ≡ suc (end - at - 1) = omega (arith, l, m) in
      ap (λ (k : ℕ). upto k at) n
      ∙ ap (λ (o : Option X). first_and o (λ y. upto (end - at - 1) (stop y))) (found_ok stop at end x (reading file at end) q l m)
      ∙ ap (λ (xs : List X). x ∷ xs) (enough (end - at - 1) (end - stop x) (stop x) (omega (arith, l, m)) (omega arith))

module _ {X : Type 0} (reading : List ℕ → ℕ → ℕ → Result X ℕ) (stop : X → ℕ) where
  read_ok : (r : Result X ℕ) (x : X) → result_ok r ≡ Some x → r ≡ Ok x
  read_ok r x q = grind arith

  same_run : (was is : Reader) (at : ℕ) → is.bytes.now ≡ was.bytes.now → is.end ≡ was.end → is.at ≡ at → run_in reading stop was.bytes.now at was.end ≡ run_of reading stop is
  same_run was is at b n m =
      ap (λ (k : ℕ). run_in reading stop was.bytes.now k was.end) (sym m) ∙ ap (λ (k : ℕ). run_in reading stop was.bytes.now is.at k) (sym n)
      ∙ ap (λ (bs : List ℕ). run_in reading stop bs is.at is.end) (sym b)

  reads_on : (was is : Reader) (x : X) → Reads reading stop was is (Ok x) → run_of reading stop was ≡ x ∷ run_of reading stop is
  reads_on was is x e =
      run_on reading stop was.bytes.now was.end was.at x e.value e.ahead e.within
      ∙ ap (λ (xs : List X). x ∷ xs) (same_run was is (stop x) e.bytes e.end e.moved)

  -- a part that a reader reads is the first of its run, and the rest of the run is what it stands at then
  pub run_reads : (was is : Reader) (r : Result X ℕ) (x : X) → Reads reading stop was is r → result_ok r ≡ Some x → run_of reading stop was ≡ x ∷ run_of reading stop is
  run_reads was is r x e q = reads_on was is x (subst (λ (s : Result X ℕ). Reads reading stop was is s) (read_ok r x q) e)

-- one thing after another fits what was read of it, each where the one before it ends
module _ {M X : Type 0} (Fits : ℕ → X → M → Type 0) (stop : X → ℕ) where
  abbrev pub Lying : ℕ → List M → List X → Type 0
  Lying at [] [] = Unit {0}
  Lying at [] (x ∷ xs) = ⊥
  Lying at (m ∷ ms) [] = ⊥
  Lying at (m ∷ ms) (x ∷ xs) = Fits at x m × Lying (stop x) ms xs

  -- the first of a run fits the first thing, and the others the others
  pub record FirstLies (at : ℕ) (ms : List M) (x : X) (xs : List X) : Type 0 where
    pub first : M
    pub tail : List M
    pub split : ms ≡ first ∷ tail
    pub fits : Fits at x first
    pub others : Lying (stop x) tail xs

  first_of : (at : ℕ) (ms : List M) (x : X) (xs : List X) → Lying at ms (x ∷ xs) → FirstLies at ms x xs
  first_of at [] x xs l = absurd l
  first_of at (m ∷ ms) x xs l = record { first = m; tail = ms; split = refl; fits = l.0; others = l.1 }

  pub lying_on : (at : ℕ) (ms : List M) (x : X) (xs ys : List X) → ys ≡ x ∷ xs → Lying at ms ys → FirstLies at ms x xs
  lying_on at ms x xs ys e l = first_of at ms x xs (subst (Lying at ms) e l)

  none_of : (at : ℕ) (ms : List M) → Lying at ms [] → ms ≡ []
  none_of at [] l = refl
  none_of at (m ∷ ms) l = absurd l

  pub lying_end : (at : ℕ) (ms : List M) (ys : List X) → ys ≡ [] → Lying at ms ys → ms ≡ []
  lying_end at ms ys e l = none_of at ms (subst (Lying at ms) e l)
