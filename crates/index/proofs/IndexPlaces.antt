-- The record of an index lies where its tree says.
use Rattle.std.proofs.Common.{◌≡◌, ℕ, ◌+◌, ◌-◌, ◌≤◌, Bool, true, false, cond, List, [], ◌++◌, length, drop, Some, None, Ok, Option, Result, sym, refl, ◌∙◌, subst}
use Rattle.std.proofs.lemmas.Bool.{eqb-true}
use Rattle.der.specs.declared.span.Span.{Span}
use Rattle.der.specs.Spans.{part}
use Rattle.der.specs.Trees.{Tree, Forest, none, more, Valid, encode, tag_of}
use Rattle.fields.specs.Reads.{◌>>=◌, is, tagged, expect_of, finish_of, behind}
use Rattle.fields.specs.Placed.{located, Placed, placed_from, nth, entries_for, mapped}
use Rattle.fields.specs.Rules.{parts_of, head_size, body_size, free}
use Rattle.fields.proofs.Steps.{then_then, Gives}
use Rattle.fields.proofs.Tags.{seq}
use Rattle.fields.proofs.Standing.{At, rest_at, inside_at, front_read, front_at}
use Rattle.fields.proofs.Links.{each_allowed}
use Rattle.fields.proofs.Places.{by_cond, lie_then, lie_check, lie_record, lie_list_entries}
use Rattle.cms.proofs.Served.{served}
use Rattle.index.specs.declared.located.AlgorithmParts.{AlgorithmParts}
use Rattle.index.specs.declared.located.IndexParts.{IndexParts}
use Rattle.index.specs.Records.{algorithm_in, algorithm_of, algorithm_stop, list_in, lists_behind, index_in, index_parts_of}
use Rattle.index.specs.Grammar.{is_algorithm, index_break}
use Rattle.index.specs.Places.{algorithm_at, index_from, index_at}
use Rattle.index.proofs.AlgorithmLinks.{algorithm_lies}
use Rattle.index.proofs.IndexLinks.{none_has, first_has, link_whole}

-- an index with an algorithm, and lists that are the first of these elements
abbrev lists_from : Span → Option AlgorithmParts → List Placed → IndexParts
lists_from whole algorithm parts = record {
  whole = whole;
  algorithm = algorithm;
  certificates = entries_for (nth 0 parts);
  revocations = entries_for (nth 1 parts);
  attributes = entries_for (nth 2 parts);
}

module _ (levels : ℕ) (file : List ℕ) (whole : Span) where
  list_lies : (t : Tree) (ts : Forest) (at : ℕ) → At levels file at whole.end (more t ts) → tag_of t ≡ 0x30 →
      Gives (λ y. y ≡ entries_for (record { at = at; tree = t })) (list_in file (located at t))
  list_lies t ts at a e = lie_list_entries (expect_of 4) (is 4) free levels file (λ stop. each_allowed (levels - 1) file stop (is 4)) at whole.end t ts a 0x30 e seq

  -- the three lists, behind an algorithm that may be there
  lists_lie : (o : Option AlgorithmParts) (ts : Forest) → At levels file (behind algorithm_stop whole.body o) whole.end ts →
      Gives (λ x. x ≡ lists_from whole o (placed_from (behind algorithm_stop whole.body o) ts)) (lists_behind file whole o)
  lists_lie o ts a =
      lie_record levels file whole.end 0x30 entries_for (ListsLie o) (list_in file) _ _ ts a (λ t₁ ts₁ a₁ e₁. list_lies t₁ ts₁ _ a₁ e₁) (λ t₁ ts₁ a₁.
      lie_record levels file whole.end 0x30 entries_for (λ us. ListsLie o (more t₁ us)) (list_in file) _ _ ts₁ (rest_at levels file _ _ t₁ ts₁ a₁) (λ t₂ ts₂ a₂ e₂. list_lies t₂ ts₂ _ a₂ e₂) (λ t₂ ts₂ a₂.
      lie_record levels file whole.end 0x30 entries_for (λ us. ListsLie o (more t₁ (more t₂ us))) (list_in file) _ _ ts₂ (rest_at levels file _ _ t₂ ts₂ a₂) (λ t₃ ts₃ a₃ e₃. list_lies t₃ ts₃ _ a₃ e₃) (λ t₃ ts₃ a₃.
      lie_check _ _ _ refl)))
    where
      ListsLie : Option AlgorithmParts → Forest → IndexParts → Type 0
      ListsLie o ts x = x ≡ lists_from whole o (placed_from (behind algorithm_stop whole.body o) ts)

  -- the algorithm, where the first element stands for one
  first_lies : (t : Tree) (ts : Forest) → At levels file whole.body whole.end (more t ts) → (b : Bool) → is_algorithm t ≡ b →
      Gives (λ x. x ≡ lists_from whole (mapped algorithm_at (cond b (Some (record { at = whole.body; tree = t })) None)) (cond b (placed_from (whole.body + head_size t + body_size t) ts) (placed_from whole.body (more t ts))))
      (cond b (algorithm_of file whole.body whole.end >>= (λ x. Ok (Some x))) (Ok None) >>= lists_behind file whole)
  first_lies t ts a true q =
      subst (Gives _) (sym (then_then (algorithm_of file whole.body whole.end) (λ x. Ok (Some x)) (lists_behind file whole)))
      (lie_record levels file whole.end 0x30 algorithm_at (λ us x. x ≡ lists_from whole (Some (algorithm_at (nth 0 (placed_from whole.body us)))) (drop 1 (placed_from whole.body us)))
      (algorithm_in file) (λ x. lists_behind file whole (Some x)) whole.body (more t ts) a
      (λ t₁ ts₁ a₁ e₁. algorithm_lies (levels - 1) file (located _ t₁) (parts_of t₁) (inside_at levels file _ _ t₁ ts₁ a₁ 0x30 e₁ seq))
      (λ t₁ ts₁ a₁. lists_lie (Some (algorithm_at (record { at = whole.body; tree = t₁ }))) ts₁ (rest_at levels file _ _ t₁ ts₁ a₁)))
  first_lies t ts a false q = lists_lie None (more t ts) a

  pub index_lies : (ts : Forest) → At levels file whole.body whole.end ts → Gives (λ x. x ≡ index_from whole (placed_from whole.body ts)) (index_in file whole)
  index_lies none a =
      subst (λ (b : Bool). Gives (λ x. x ≡ index_from whole []) (cond b (algorithm_of file whole.body whole.end >>= (λ x. Ok (Some x))) (Ok None) >>= lists_behind file whole)) (sym (none_has levels file _ _ a))
      (lists_lie None none a)
  index_lies (more t ts) a =
      subst (λ (b : Bool). Gives (λ x. x ≡ index_from whole (placed_from whole.body (more t ts))) (cond b (algorithm_of file whole.body whole.end >>= (λ x. Ok (Some x))) (Ok None) >>= lists_behind file whole))
      (sym (first_has levels file _ _ t ts a)) (first_lies t ts a (is_algorithm t) refl)

-- an index that is read lies where its tree says
module _ (file : List ℕ) (at end : ℕ) (t : Tree) (surplus : List ℕ) (levels : ℕ) (v : Valid t levels) (room : end ≤ length file) (e : encode t ++ surplus ≡ part file at end) where
  pub whole_lies : Gives (λ x. x ≡ index_at at t) (index_parts_of file at end)
  whole_lies =
      subst (λ (r : Result Span ℕ). Gives (λ x. x ≡ index_at at t) ((r >>= tagged at (is 0x30)) >>= rest)) (sym (front_read levels file at end t surplus v room e))
      (by_cond (is 0x30 (tag_of t)) (λ x. x ≡ index_at at t) (located at t) at rest (λ b.
      lie_then (λ x. x ≡ index_at at t) _ _ _
      (index_lies (levels - 1) file (located at t) (parts_of t) (inside_at levels file at _ t none (front_at levels file at end t surplus v room e) 0x30 (eqb-true (tag_of t) 0x30 b) seq))
      (λ x q. lie_check _ _ _ q)))
    where
      rest : Span → Result IndexParts ℕ
      rest whole = index_in file whole >>= (λ x. finish_of whole.end end >>= (λ _. Ok x))

  -- and one with no break is read
  pub index_served : index_break at t surplus ≡ None → index_parts_of file at end ≡ Ok (index_at at t)
  index_served n = served _ _ (link_whole file at end t surplus levels v room e ∙ n) whole_lies
