-- The rows of a survey: which elements of a file an index has an entry for.
use Rattle.std.specs.Prelude.{◌≡◌, ℕ, ◌+◌, cond, List, [], ◌∷◌, ◌++◌, length}
use Rattle.der.specs.Trees.{Tree, encode}
use Rattle.stamp_model.specs.declared.lists.ListName.{ListName}
use Rattle.stamp_model.specs.declared.lists.ListName.TheVariants.{Certificates, Revocations, Attributes}
use Rattle.stamp_model.specs.Indexes.{Index, entries_for}
use Rattle.index.specs.declared.elements.ElementLists.{ElementLists}
use Rattle.index.specs.Puts.{Written}
use Rattle.index.specs.Standing.{elements_for}
use Rattle.matching.specs.declared.row.Side.{Side}
use Rattle.matching.specs.declared.row.Side.TheVariants.{Outside, Inside}
use Rattle.matching.specs.declared.row.Row.{Row}
use Rattle.matching.specs.declared.row.Tally.{Tally}
use Rattle.matching.specs.Lists.{holds}

-- the side of an element with this digest: inside exactly if some entry is it
abbrev pub side_for : List (List ℕ) → List ℕ → Side
side_for entries digest = cond (holds entries digest) Inside Outside

-- one row for each element of a list, the first of which begins at `p`
abbrev pub rows_from : (List ℕ → List ℕ) → ListName → List (List ℕ) → ℕ → List Tree → List Row
rows_from D list entries p [] = []
rows_from D list entries p (t ∷ ts) =
    record { list = list; start = p; length = length (encode t); side = side_for entries (D (encode t)) } ∷ rows_from D list entries (p + length (encode t)) ts

-- for the elements of one list of a file
abbrev pub rows_in : (List ℕ → List ℕ) → ElementLists → (ListName → List Tree) → Index → ListName → List Row
rows_in D lists trees x list = rows_from D list (entries_for x list) (elements_for lists list).reader.at (trees list)

-- for those of the three lists, in their order
abbrev pub rows_of : (List ℕ → List ℕ) → ElementLists → (ListName → List Tree) → Index → List Row
rows_of D lists trees x = rows_in D lists trees x Certificates ++ (rows_in D lists trees x Revocations ++ rows_in D lists trees x Attributes)

-- how many rows are inside, and how many outside
abbrev pub inside_told_by : Side → ℕ
inside_told_by Inside = 1
inside_told_by Outside = 0

abbrev pub outside_by : Side → ℕ
outside_by Inside = 0
outside_by Outside = 1

abbrev pub inside_in : List Row → ℕ
inside_in [] = 0
inside_in (r ∷ rs) = inside_told_by r.side + inside_in rs

abbrev pub outside_in : List Row → ℕ
outside_in [] = 0
outside_in (r ∷ rs) = outside_by r.side + outside_in rs

-- the rows stand at the front of the table, and are counted
pub record Surveyed (rows was is : List Row) (r : Tally) : Type 0 where
  pub written : Written rows was is (r.inside + r.outside)
  pub inside : r.inside ≡ inside_in rows
  pub outside : r.outside ≡ outside_in rows
