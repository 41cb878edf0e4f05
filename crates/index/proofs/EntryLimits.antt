-- The first entry too many that the record of an index leads to is that of the index, and there is none exactly when every list keeps its limit.
use Rattle.std.proofs.Common.{◌≡◌, ℕ, ◌≤◌, List, [], ◌∷◌, length, Some, None, Option, sym, ap, ◌∙◌}
use Rattle.std.proofs.lemmas.List.{append-nil}
use Rattle.std.proofs.lemmas.Bool.{cond-false}
use Rattle.der.specs.Spans.{part}
use Rattle.der.specs.Trees.{Forest, none, more, Valid}
use Rattle.fields.specs.Placed.{Placed, placed_from, entries_for, nth}
use Rattle.fields.specs.Rules.{or_else}
use Rattle.fields.proofs.Standing.{At, front_at}
use Rattle.fields.proofs.Tags.{seq}
use Rattle.model.specs.Parts.{maybe}
use Rattle.rules.specs.Limits.{most_entries}
use Rattle.rules.specs.Offsets.{skip, skip_maybe}
use Rattle.limits.specs.Past.{entries_past}
use Rattle.limits.proofs.Signing.{behind_at, within_at, list_past, both}
use Rattle.limits.proofs.Keeping.{none_both, both_none, row_keeps, row_none}
use Rattle.stamp_model.specs.declared.lists.ListName.TheVariants.{Certificates, Revocations, Attributes}
use Rattle.stamp_model.specs.Algorithms.{Algorithm, algorithm_tree}
use Rattle.stamp_model.specs.Indexes.{Index, entry_tree, entries_tree, index_tree, index_bytes, IndexShape}
use Rattle.index.specs.Grammar.{is_algorithm}
use Rattle.index.specs.Limits.{lists_at, too_many_entries, first_too_many_entry_of, first_past_entry}
use Rattle.index.specs.Places.{past_algorithm, index_at}
use Rattle.index.proofs.IndexTrees.{no_algorithm}

-- the lists, read where they lie among these elements
abbrev lists_read : List ℕ → List Placed → Option ℕ
lists_read file xs = or_else (entries_past file (Some (entries_for (nth 0 xs)))) (or_else (entries_past file (Some (entries_for (nth 1 xs)))) (entries_past file (Some (entries_for (nth 2 xs)))))

module _ (c r u : List (List ℕ)) where
  abbrev pub three_lists : Forest
  three_lists = more (entries_tree c) (more (entries_tree r) (more (entries_tree u) none))

  -- the first entry too many where they begin at `at`
  abbrev lists_said : ℕ → Option ℕ
  lists_said at = or_else (too_many_entries at c) (or_else (too_many_entries (skip at (entries_tree c ∷ [])) r) (too_many_entries (skip at (entries_tree c ∷ entries_tree r ∷ [])) u))

  lists_past : (levels : ℕ) (file : List ℕ) (at end : ℕ) → At levels file at end three_lists → lists_read file (placed_from at three_lists) ≡ lists_said at
  lists_past levels file at end a = both _ _ _ _ (list_past a seq) (both _ _ _ _ (list_past (behind_at a) seq) (list_past (behind_at (behind_at a)) seq))

  -- where no algorithm stands, the lists are all there is
  pub lists_first : (p : ℕ) → past_algorithm (placed_from p three_lists) ≡ placed_from p three_lists
  lists_first p = cond-false (is_algorithm (entries_tree c)) _ _ (no_algorithm c)

  fields_past : (levels : ℕ) (file : List ℕ) (at end : ℕ) (o : Option Algorithm) → At levels file at end (maybe algorithm_tree o three_lists) →
      lists_read file (past_algorithm (placed_from at (maybe algorithm_tree o three_lists))) ≡ lists_said (skip_maybe algorithm_tree at o)
  fields_past levels file at end None a = ap (lists_read file) (lists_first at) ∙ lists_past levels file at end a
  fields_past levels file at end (Some o) a = lists_past levels file _ end (behind_at a)

pub index_past : (x : Index) (levels : ℕ) (file : List ℕ) (at end : ℕ) → At levels file at end (more (index_tree x) none) → first_past_entry file (index_at at (index_tree x)) ≡ first_too_many_entry_of at x
index_past x levels file at end a = fields_past x.certificates x.revocations x.attributes _ file _ _ x.algorithm (within_at a seq)

-- the same of an index by its bytes
pub bytes_past : (x : Index) (levels : ℕ) (file : List ℕ) (at end : ℕ) → Valid (index_tree x) levels → end ≤ length file → part file at end ≡ index_bytes x →
    first_past_entry file (index_at at (index_tree x)) ≡ first_too_many_entry_of at x
bytes_past x levels file at end v l e = index_past x levels file at _ (front_at levels file at end (index_tree x) [] v l (append-nil (index_bytes x) ∙ sym e))

pub none_too_many : (place : ℕ) (x : Index) → (first_too_many_entry_of place x ≡ None → IndexShape x) × (IndexShape x → first_too_many_entry_of place x ≡ None)
none_too_many place x = (keeps, none)
  where
    keeps : first_too_many_entry_of place x ≡ None → IndexShape x
    keeps e Certificates = row_keeps entry_tree most_entries _ x.certificates (none_both _ _ e).0
    keeps e Revocations = row_keeps entry_tree most_entries _ x.revocations (none_both _ _ (none_both (too_many_entries (lists_at place x) x.certificates) _ e).1).0
    keeps e Attributes = row_keeps entry_tree most_entries _ x.attributes (none_both (too_many_entries (skip (lists_at place x) (entries_tree x.certificates ∷ [])) x.revocations) _ (none_both (too_many_entries (lists_at place x) x.certificates) _ e).1).1

    none : IndexShape x → first_too_many_entry_of place x ≡ None
    none k = both_none _ _ (row_none entry_tree most_entries _ x.certificates (k Certificates)) (both_none _ _ (row_none entry_tree most_entries _ x.revocations (k Revocations)) (row_none entry_tree most_entries _ x.attributes (k Attributes)))
