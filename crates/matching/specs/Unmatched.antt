-- The first entry of an index that no element of its list has the digest of.
use Rattle.std.specs.Prelude.{ℕ, ◌+◌, cond, List, [], ◌∷◌, map, Some, None, Option}
use Rattle.stamp_model.specs.declared.lists.ListName.{ListName}
use Rattle.stamp_model.specs.declared.lists.ListName.TheVariants.{Certificates, Revocations, Attributes}
use Rattle.stamp_model.specs.Indexes.{Index, entries_for}
use Rattle.matching.specs.declared.unmatched.Unmatched.{Unmatched}
use Rattle.matching.specs.Lists.{holds}

-- the number of the first entry that is none of the digests; the first entry has the number n
abbrev pub first_missing_of : List (List ℕ) → ℕ → List (List ℕ) → Option ℕ
first_missing_of digests n [] = None
first_missing_of digests n (e ∷ es) = cond (holds digests e) (first_missing_of digests (n + 1) es) (Some n)

-- with the list in which it stands
abbrev pub in_list : ListName → Option ℕ → Option Unmatched
in_list list None = None
in_list list (Some n) = Some (record { list = list; entry = n })

-- in one list of an index, for elements under a digest D
abbrev pub unmatched_in : (List ℕ → List ℕ) → (ListName → List (List ℕ)) → Index → ListName → Option Unmatched
unmatched_in D elements x list = in_list list (first_missing_of (map D (elements list)) 0 (entries_for x list))

abbrev pub or_else : Option Unmatched → Option Unmatched → Option Unmatched
or_else None later = later
or_else (Some u) later = Some u

-- in the three lists, in their order
abbrev pub first_unmatched_of : (List ℕ → List ℕ) → (ListName → List (List ℕ)) → Index → Option Unmatched
first_unmatched_of D elements x = or_else (unmatched_in D elements x Certificates) (or_else (unmatched_in D elements x Revocations) (unmatched_in D elements x Attributes))
