-- A table that is filled list by list holds the rows of the survey.
use Rattle.std.proofs.Common.{◌≡◌, ℕ, ◌+◌, ◌-◌, List, [], ◌∷◌, ◌++◌, map, length, take, drop, sym, refl, ap, ◌∙◌, arith}
use Rattle.std.proofs.lemmas.List.{length-append}
use Rattle.der.specs.Trees.{Tree, encode, body_of}
use Rattle.stamp_model.specs.declared.lists.ListName.{ListName}
use Rattle.stamp_model.specs.declared.lists.ListName.TheVariants.{Certificates, Revocations, Attributes}
use Rattle.stamp_model.specs.Indexes.{Index, entries_for}
use Rattle.index.specs.declared.elements.ElementLists.{ElementLists}
use Rattle.index.specs.Puts.{Put}
use Rattle.index.specs.Standing.{elements_for, entry_trees}
use Rattle.index.proofs.Areas.{put_then, put_same, put_whole}
use Rattle.matching.specs.declared.row.Side.{Side}
use Rattle.matching.specs.declared.row.Side.TheVariants.{Outside, Inside}
use Rattle.matching.specs.declared.row.Row.{Row}
use Rattle.matching.specs.Rows.{rows_from, rows_in, rows_of, inside_told_by, outside_by, inside_in, outside_in, Surveyed}
use Rattle.matching.proofs.Missing.{bodies_are}

one_side : (s : Side) → inside_told_by s + outside_by s ≡ 1
one_side Inside = refl
one_side Outside = refl

-- every row is inside or outside
pub both_sides : (rows : List Row) → inside_in rows + outside_in rows ≡ length rows
both_sides [] = refl
both_sides (r ∷ rows) = let e = both_sides rows in omega (arith, one_side r.side)

-- as many rows as elements
rows_length : (D : List ℕ → List ℕ) (list : ListName) (entries : List (List ℕ)) (p : ℕ) (ts : List Tree) → length (rows_from D list entries p ts) ≡ length ts
rows_length D list entries p [] = refl
rows_length D list entries p (t ∷ ts) = let e = rows_length D list entries (p + length (encode t)) ts in omega arith

module _ (D : List ℕ → List ℕ) (lists : ElementLists) (trees : ListName → List Tree) (x : Index) where
  pub all_rows : length (rows_of D lists trees x) ≡ length (trees Certificates) + (length (trees Revocations) + length (trees Attributes))
  all_rows =
      length-append (rows_in D lists trees x Certificates) _ ∙ omega (
        arith,
        length-append (rows_in D lists trees x Revocations) (rows_in D lists trees x Attributes),
        rows_length D Certificates (entries_for x Certificates) lists.certificates.reader.at (trees Certificates),
        rows_length D Revocations (entries_for x Revocations) lists.revocations.reader.at (trees Revocations),
        rows_length D Attributes (entries_for x Attributes) lists.attributes.reader.at (trees Attributes),
      )

  -- the rows of one list are put
  abbrev pub PutIn : ListName → List Row → List Row → ℕ → ℕ → Type 0
  PutIn list was is at end = Put was is at (rows_from D list (map body_of (entry_trees x list)) (elements_for lists list).reader.at (trees list)) end

  put_in : (list : ListName) (was is : List Row) (at end : ℕ) → PutIn list was is at end → Put was is at (rows_in D lists trees x list) end
  put_in list was is at end p =
      put_same was is _ _ at end (ap (λ (es : List (List ℕ)). rows_from D list es (elements_for lists list).reader.at (trees list)) (bodies_are (entries_for x list))) p

  pub surveyed : (was one two is : List Row) (a b end n : ℕ) → PutIn Certificates was one 0 a → PutIn Revocations one two a b → PutIn Attributes two is b end →
      n ≡ inside_in (take (end - 0) is) → Surveyed (rows_of D lists trees x) was is (record { inside = n; outside = end - n })
  surveyed was one two is a b end n p q r e =
      let rows : List Row = rows_of D lists trees x in
      let put = put_then was one is _ _ 0 a end (put_in Certificates was one 0 a p) (put_then one two is _ _ a b end (put_in Revocations one two a b q) (put_in Attributes two is b end r)) in
      let whole = put_whole was is rows end put in
      let zero-off : end - 0 ≡ end = omega arith in
      let inside : n ≡ inside_in rows = e ∙ ap (λ (k : ℕ). inside_in (take k is)) zero-off ∙ ap inside_in put.front in
      let sides = both_sides rows in
      let sum : n + (end - n) ≡ end = omega (arith, inside, sides, whole.counted) in
      record {
        written = record { counted = sum ∙ whole.counted; front = whole.front ∙ ap (λ (k : ℕ). rows ++ drop k was) (sym sum) };
        inside = inside;
        outside = omega (arith, inside, sides, whole.counted);
      }
