-- A list is read element by element.
use Rattle.std.proofs.Common.{◌≡◌, ℕ, zero, suc, ◌+◌, ◌-◌, ◌<◌, ◌≤◌, ltb, List, Ok, Err, sym, refl, ap, ◌∙◌, arith}
use Rattle.std.proofs.lemmas.Bool.{cond-true, cond-false, lt-ltb, le-ltb}
use Rattle.der.specs.declared.span.Span.{Span}
use Rattle.fields.specs.Reads.{◌>>=◌, Reading, count_of}
use Rattle.fields.proofs.Steps.{then_ok, then_err}

module _ (each : Reading) (file : List ℕ) (end : ℕ) where
  -- at the end, whatever the fuel
  pub count_end : (k at n : ℕ) → end ≤ at → count_of each k file at end n ≡ Ok n
  count_end zero at n l = refl
  count_end (suc k) at n l = cond-false (ltb at end) _ _ (le-ltb at end l)

  opened : (k at n : ℕ) → 0 < k → at < end → count_of each k file at end n ≡ (each file at end >>= (λ e. count_of each (k - 1) file e.end end (n + 1)))
  opened zero at n p l = absurd (omega arith)
  opened (suc k) at n p l =
      let q : suc k - 1 ≡ k = omega arith in
      cond-true (ltb at end) _ _ (lt-ltb at end l) ∙ ap (λ (m : ℕ). each file at end >>= (λ e. count_of each m file e.end end (n + 1))) (sym q)

  -- one entry more
  pub count_on : (k at n : ℕ) (e : Span) → 0 < k → at < end → Ok e ≡ each file at end → count_of each k file at end n ≡ count_of each (k - 1) file e.end end (n + 1)
  count_on k at n e p l q = opened k at n p l ∙ then_ok (each file at end) e _ q

  pub count_broke : (k at n p : ℕ) → 0 < k → at < end → Err p ≡ each file at end → count_of each k file at end n ≡ Err p
  count_broke k at n p s l q = opened k at n s l ∙ then_err (each file at end) p _ q
