-- The place behind elements that are read is the place behind their trees.
use Rattle.std.proofs.Common.{◌≡◌, ℕ, zero, suc, ◌+◌, ◌-◌, ◌<◌, ◌≤◌, leb, List, Some, None, Ok, Err, Option, Result, sym, ap, ◌∙◌, arith}
use Rattle.std.proofs.lemmas.Bool.{cond-true, cond-false, le-leb, lt-leb}
use Rattle.der.specs.declared.span.Span.{Span}
use Rattle.der.specs.Trees.{Tree, Forest, none, more}
use Rattle.fields.specs.Rules.{or_else}
use Rattle.fields.proofs.Standing.{At, none_left, none_read, first_read, first_fits, rest_at}
use Rattle.rules.specs.Limits.{too_many_of}
use Rattle.limits.specs.Past.{left_of, if_read, past_by, past_of}

module _ {X : Type 0} (each : List ℕ → ℕ → ℕ → Result X ℕ) (stop : X → ℕ) (within : List ℕ → X → Option ℕ) (file : List ℕ) (end limit : ℕ) where
  abbrev past : ℕ → ℕ → Option ℕ
  past n at = past_by each stop within n file at end

  -- before the first turn, and behind the last
  pub past_all : (at : ℕ) → past limit at ≡ past (limit - 0) at
  past_all at = let n : limit ≡ limit - 0 = omega arith in ap (λ (m : ℕ). past m at) n

  pub past_done : (k at : ℕ) → limit ≤ k → past (limit - k) at ≡ left_of at end
  past_done k at l = let n : limit - k ≡ 0 = omega arith in ap (λ (m : ℕ). past m at) n

  -- a turn, behind k others
  abbrev onward : ℕ → Result X ℕ → Option ℕ
  onward k r = if_read r (λ x. or_else (within file x) (past (limit - (k + 1)) (stop x)))

  opened : (k at : ℕ) (r : Result X ℕ) → k < limit → r ≡ each file at end → past (limit - k) at ≡ onward k r
  opened k at r l q = let n : limit - k ≡ suc (limit - (k + 1)) = omega arith in ap (λ (m : ℕ). past m at) n ∙ ap (onward k) (sym q)

  pub past_none : (k at p : ℕ) → k < limit → Err p ≡ each file at end → past (limit - k) at ≡ None
  past_none k at p l q = opened k at (Err p) l q

  pub past_found : (k at p : ℕ) (x : X) → k < limit → Ok x ≡ each file at end → within file x ≡ Some p → past (limit - k) at ≡ Some p
  past_found k at p x l q w = opened k at (Ok x) l q ∙ ap (λ (o : Option ℕ). or_else o (past (limit - (k + 1)) (stop x))) w

  pub past_on : (k at after : ℕ) (x : X) → k < limit → Ok x ≡ each file at end → within file x ≡ None → after ≡ stop x → past (limit - k) at ≡ past (limit - (k + 1)) after
  past_on k at after x l q w s =
      opened k at (Ok x) l q ∙ ap (λ (o : Option ℕ). or_else o (past (limit - (k + 1)) (stop x))) w ∙ ap (past (limit - (k + 1))) (sym s)

-- nothing is left where no tree is, and a byte at least where one is
pub none_leaves : (levels : ℕ) (file : List ℕ) (at end : ℕ) → At levels file at end none → left_of at end ≡ None
none_leaves levels file at end a = cond-true (leb end at) _ _ (le-leb end at (omega (arith, none_left levels file at end a)))

pub more_leaves : (levels : ℕ) (file : List ℕ) (at end : ℕ) (t : Tree) (ts : Forest) → At levels file at end (more t ts) → left_of at end ≡ Some at
more_leaves levels file at end t ts a = cond-false (leb end at) _ _ (lt-leb end at (omega (arith, first_fits levels file at end t ts a)))

pub past_is : (levels : ℕ) (file : List ℕ) (end n at : ℕ) (ts : Forest) → At levels file at end ts → past_of n file at end ≡ too_many_of n at ts
past_is levels file end zero at none a = none_leaves levels file at end a
past_is levels file end zero at (more t ts) a = more_leaves levels file at end t ts a
past_is levels file end (suc n) at none a = ap (λ (r : Result Span ℕ). if_read r (λ x. past_of n file x.end end)) (none_read levels file at end a)
past_is levels file end (suc n) at (more t ts) a =
    ap (λ (r : Result Span ℕ). if_read r (λ x. past_of n file x.end end)) (first_read levels file at end t ts a)
    ∙ past_is levels file end n _ ts (rest_at levels file at end t ts a)
