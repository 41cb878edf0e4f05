-- An array that calls of a closure filled.
use Rattle.std.proofs.Common.{◌≡◌, ℕ, zero, suc, ◌+◌, ◌<◌, ◌≤◌, List, get_or, sym, subst, ⊎_elim, arith}
use Rattle.std.proofs.lemmas.Bool.{cases_lt}
use Rattle.std.specs.Fn.{Mut, Called}
use Rattle.std.specs.Array.{IsFromFnResultFrom}

-- what every call gives, from a state of which I holds, stands at each place
pub filled : {F B : Type 0} (g : Mut F (ℕ × Unit {0}) B) (I : F → Type 0) (P : ℕ → B → Type 0) → ((f q : F) (i : ℕ) (y : B) → I f → Called g f (i, tt) y q → I q × P i y)
    → (n i : ℕ) (f : F) (ys : List B) → I f → IsFromFnResultFrom g f ys i n → (k : ℕ) (d : B) → i ≤ k → k < i + n → P k (get_or ys k d)
filled g I P call zero i f ys is all k d low high = absurd (omega arith)
filled g I P call (suc n) i f ys is all k d low high =
    let here = call f all.0 i all.1 is all.3 in
    let later : i < k → P k (get_or ys k d) = λ l. filled g I P call n (i + 1) all.0 ys here.0 all.4 k d (omega arith) (omega arith) in
    let now' : k ≤ i → P k (get_or ys k d) = λ l. let same : i ≡ k = omega arith in subst (λ m. P m (get_or ys m d)) same (subst (P i) (sym (all.2.1 d)) here.1) in
    ⊎_elim later now' (cases_lt i k)
