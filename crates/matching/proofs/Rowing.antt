-- Rows, put one behind another and counted.
use Rattle.std.proofs.Common.{◌≡◌, ℕ, Bool, true, false, cond, filter, ◌+◌, ◌<◌, List, [], ◌∷◌, ◌++◌, length, set, sym, refl, ap, ◌∙◌, arith}
use Rattle.der.specs.Trees.{Tree, encode}
use Rattle.stamp_model.specs.declared.lists.ListName.{ListName}
use Rattle.index.specs.Puts.{Put}
use Rattle.index.proofs.Areas.{set_put, put_then, put_same}
use Rattle.matching.specs.declared.row.Side.{Side}
use Rattle.matching.specs.declared.row.Side.TheVariants.{Outside, Inside}
use Rattle.matching.specs.declared.row.Row.{Row}
use Rattle.matching.specs.Rows.{side_for, rows_from, inside_told_by, inside_in}

-- the rows that are inside are counted
abbrev pub is_inside : Row → Bool
is_inside r = elim r.side [ Inside ↦ true | Outside ↦ false ]

pub inside_counted : (rows : List Row) → length (filter is_inside rows) ≡ inside_in rows
inside_counted [] = refl
inside_counted (r ∷ rows) = by r.side (inside_counted rows)
  where
    by : (s : Side) → length (filter is_inside rows) ≡ inside_in rows →
        length (cond (elim s [ Inside ↦ true | Outside ↦ false ]) (r ∷ filter is_inside rows) (filter is_inside rows)) ≡ inside_told_by s + inside_in rows
    by Inside e = omega (arith, e)
    by Outside e = omega (arith, e)

pub row_same : (list : ListName) (p q n m : ℕ) (a b : Side) → p ≡ q → n ≡ m → a ≡ b →
    ◌≡◌ {A = Row} (record { list = list; start = p; length = n; side = a }) (record { list = list; start = q; length = m; side = b })
row_same list p q n m a b e f g i = record { list = list; start = e i; length = f i; side = g i }

-- the offset behind elements back to back
abbrev pub behind : ℕ → List Tree → ℕ
behind p [] = p
behind p (t ∷ ts) = behind (p + length (encode t)) ts

module _ (D : List ℕ → List ℕ) (list : ListName) (entries : List (List ℕ)) where
  -- the row of an element that begins at `p`
  abbrev pub row_at : ℕ → Tree → Row
  row_at p t = record { list = list; start = p; length = length (encode t); side = side_for entries (D (encode t)) }

  rows_more : (p : ℕ) (done : List Tree) (t : Tree) → rows_from D list entries p (done ++ (t ∷ [])) ≡ rows_from D list entries p done ++ (row_at (behind p done) t ∷ [])
  rows_more p [] t = refl
  rows_more p (x ∷ done) t = ap (λ (rs : List Row). row_at p x ∷ rs) (rows_more (p + length (encode x)) done t)

  behind_more : (p : ℕ) (done : List Tree) (t : Tree) → behind p (done ++ (t ∷ [])) ≡ behind p done + length (encode t)
  behind_more p [] t = refl
  behind_more p (x ∷ done) t = behind_more (p + length (encode x)) done t

  -- the rows of some elements from `p` on are put, and the next element begins at `next`
  pub record Rowed (p : ℕ) (was is : List Row) (at end next : ℕ) (ts : List Tree) : Type 0 where
    pub rows : Put was is at (rows_from D list entries p ts) end
    pub reached : next ≡ behind p ts

  -- one more row
  pub rowed_more : (p : ℕ) (was mid : List Row) (at middle next after : ℕ) (done : List Tree) (t : Tree) (r : Row) → middle < length mid →
      Rowed p was mid at middle next done → r ≡ row_at next t → after ≡ next + length (encode t) → Rowed p was (set mid middle r) at (middle + 1) after (done ++ (t ∷ []))
  rowed_more p was mid at middle next after done t r l h e q = record {
    rows = put_same _ _ _ _ at (middle + 1) (ap (λ (x : Row). rows_from D list entries p done ++ (x ∷ [])) (e ∙ ap (λ (n : ℕ). row_at n t) h.reached) ∙ sym (rows_more p done t)) (put_then was mid (set mid middle r) _ _ at middle (middle + 1) h.rows (set_put mid middle r l));
    reached = q ∙ ap (λ (n : ℕ). n + length (encode t)) h.reached ∙ sym (behind_more p done t);
  }
