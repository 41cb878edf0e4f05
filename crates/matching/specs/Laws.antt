-- What the definitions give together.
use Rattle.std.specs.Prelude.{◌≡◌, ℕ, ◌+◌, ◌<◌, List, length, take, Some, None}
use Rattle.std.specs.List.{ContainsAt as Has, AllByRecursion, slice_get}
use Rattle.der.specs.Trees.{Tree}
use Rattle.stamp_model.specs.declared.lists.ListName.{ListName}
use Rattle.stamp_model.specs.declared.lists.ListName.TheVariants.{Certificates, Revocations, Attributes}
use Rattle.stamp_model.specs.Numbers.{list_number}
use Rattle.stamp_model.specs.Indexes.{Index, entries_for}
use Rattle.stamp_model.specs.Covering.{Matched}
use Rattle.index.specs.declared.elements.ElementLists.{ElementLists}
use Rattle.matching.specs.declared.row.Side.TheVariants.{Inside}
use Rattle.matching.specs.declared.unmatched.Unmatched.{Unmatched}
use Rattle.matching.specs.Rows.{side_for, rows_of, inside_in, outside_in}
use Rattle.matching.specs.Unmatched.{first_unmatched_of}

-- every entry of a list has its element there
abbrev pub AllMatched : (List ℕ → List ℕ) → (ListName → List (List ℕ)) → Index → ListName → Type 0
AllMatched D elements x list = AllByRecursion (Matched D (elements list)) (entries_for x list)

-- no entry is unmatched exactly when each has its element
abbrev pub NoneUnmatched : Type 0
NoneUnmatched = (D : List ℕ → List ℕ) (elements : ListName → List (List ℕ)) (x : Index) →
    (first_unmatched_of D elements x ≡ None → (list : ListName) → AllMatched D elements x list)
    × (((list : ListName) → AllMatched D elements x list) → first_unmatched_of D elements x ≡ None)

-- an entry is the first that has no element: those before it in its list have theirs, and those of the lists before
pub record IsFirst (D : List ℕ → List ℕ) (elements : ListName → List (List ℕ)) (x : Index) (u : Unmatched) : Type 0 where
  pub entry : List ℕ
  pub there : slice_get (entries_for x u.list) u.entry ≡ Some entry
  pub unmatched : Matched D (elements u.list) entry → ⊥
  pub before : AllByRecursion (Matched D (elements u.list)) (take u.entry (entries_for x u.list))
  pub earlier : (list : ListName) → list_number list < list_number u.list → AllMatched D elements x list

abbrev pub FoundIsFirst : Type 0
FoundIsFirst = (D : List ℕ → List ℕ) (elements : ListName → List (List ℕ)) (x : Index) (u : Unmatched) → first_unmatched_of D elements x ≡ Some u → IsFirst D elements x u

-- an element is inside exactly when some entry is its digest
abbrev pub InsideTells : Type 0
InsideTells = (entries : List (List ℕ)) (digest : List ℕ) → (side_for entries digest ≡ Inside → Has entries digest) × (Has entries digest → side_for entries digest ≡ Inside)

-- a survey has a row for each element, and each is inside or outside
abbrev pub AllSurveyed : Type 0
AllSurveyed = (D : List ℕ → List ℕ) (lists : ElementLists) (trees : ListName → List Tree) (x : Index) →
    (length (rows_of D lists trees x) ≡ length (trees Certificates) + (length (trees Revocations) + length (trees Attributes)))
    × (inside_in (rows_of D lists trees x) + outside_in (rows_of D lists trees x) ≡ length (rows_of D lists trees x))
