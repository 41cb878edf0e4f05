-- The entries of an index and their limit: the place of the first entry too many.
use Rattle.std.specs.Prelude.{ℕ, List, [], ◌∷◌, Some, Option}
use Rattle.fields.specs.Rules.{or_else}
use Rattle.model.specs.Parts.{row_of}
use Rattle.rules.specs.Limits.{too_many_of, most_entries}
use Rattle.rules.specs.Offsets.{inside, skip, skip_maybe}
use Rattle.limits.specs.Past.{entries_past}
use Rattle.stamp_model.specs.Algorithms.{algorithm_tree}
use Rattle.stamp_model.specs.Indexes.{Index, entry_tree, entries_tree, index_tree}
use Rattle.index.specs.declared.located.IndexParts.{IndexParts}

-- where the lists begin of the index that begins at `p`
abbrev pub lists_at : ℕ → Index → ℕ
lists_at p x = skip_maybe algorithm_tree (inside p (index_tree x)) x.algorithm

-- in a list whose field begins at `p`
abbrev pub too_many_entries : ℕ → List (List ℕ) → Option ℕ
too_many_entries p entries = too_many_of most_entries (inside p (entries_tree entries)) (row_of entry_tree entries)

-- in the lists of the index that begins at `p`, in reading order
abbrev pub first_too_many_entry_of : ℕ → Index → Option ℕ
first_too_many_entry_of p x =
    or_else (too_many_entries (lists_at p x) x.certificates)
    (or_else (too_many_entries (skip (lists_at p x) (entries_tree x.certificates ∷ [])) x.revocations)
    (too_many_entries (skip (lists_at p x) (entries_tree x.certificates ∷ entries_tree x.revocations ∷ [])) x.attributes))

-- the same, read where the record says that the lists lie
abbrev pub first_past_entry : List ℕ → IndexParts → Option ℕ
first_past_entry file parts =
    or_else (entries_past file (Some parts.certificates))
    (or_else (entries_past file (Some parts.revocations)) (entries_past file (Some parts.attributes)))
