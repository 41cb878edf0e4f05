-- The reading of an index breaks off where its rule breaks.
use Rattle.std.proofs.Common.{◌≡◌, ℕ, ◌+◌, ◌-◌, ◌≤◌, Bool, true, false, cond, ◌&&◌, ltb, List, [], ◌∷◌, ◌++◌, length, is_ok, Some, None, Ok, Err, Option, Result, refl, ap, ◌∙◌, arith}
use Rattle.std.proofs.lemmas.Bool.{cond-true, cond-false, eqb-true, lt-ltb, le-ltb}
use Rattle.der.specs.declared.span.Span.{Span}
use Rattle.der.specs.Spans.{part}
use Rattle.der.specs.Trees.{Tree, Forest, none, more, Valid, encode, tag_of}
use Rattle.fields.specs.Reads.{◌>>=◌, is, tagged, expect_of, finish_of, list_of, behind, entries_stop, broke}
use Rattle.fields.specs.Placed.{located}
use Rattle.fields.specs.Rules.{parts_of, head_size, body_size, nothing, free, onward, field}
use Rattle.fields.proofs.Steps.{then_then}
use Rattle.fields.proofs.Tags.{seq}
use Rattle.fields.proofs.Standing.{At, none_read, first_read, inside_at, front_size, front_read, front_at}
use Rattle.fields.proofs.Links.{each_allowed, entries_stop_lem, by_tag, link_then, link_end, link_nothing, link_record, link_list_entries}
use Rattle.cms.specs.Grammar.{surplus_at}
use Rattle.index.specs.declared.located.AlgorithmParts.{AlgorithmParts}
use Rattle.index.specs.declared.located.IndexParts.{IndexParts}
use Rattle.index.specs.Records.{algorithm_in, algorithm_of, algorithm_stop, has_algorithm_of, list_in, lists_behind, index_in, index_parts_of}
use Rattle.index.specs.Grammar.{begins, is_algorithm, algorithm, entries, lists, index, index_break}
use Rattle.index.proofs.AlgorithmLinks.{link_algorithm, algorithm_stop_lem}
use Rattle.index.proofs.AlgorithmTrees.{and_both}

ok_cond : {X : Type 0} (b : Bool) (x : X) (p : ℕ) → is_ok {E = ℕ} (cond b (Ok x) (Err p)) ≡ b
ok_cond true x p = refl
ok_cond false x p = refl

-- the first element has the tag
begins_read : (tag levels : ℕ) (file : List ℕ) (at end : ℕ) (ts : Forest) → At levels file at end ts → is_ok (expect_of tag file at end) ≡ begins tag ts
begins_read tag levels file at end none a = ap (λ (r : Result Span ℕ). is_ok (r >>= tagged at (is tag))) (none_read levels file at end a)
begins_read tag levels file at end (more t ts) a =
    ap (λ (r : Result Span ℕ). is_ok (r >>= tagged at (is tag))) (first_read levels file at end t ts a) ∙ ok_cond (is tag (tag_of t)) (located at t) at

-- no element stands for no algorithm
pub none_has : (levels : ℕ) (file : List ℕ) (at end : ℕ) → At levels file at end none → has_algorithm_of file at end ≡ false
none_has levels file at end a = ap (λ (r : Result Span ℕ). is_ok ((r >>= tagged at (is 0x30)) >>= (λ e. expect_of 6 file e.body e.end))) (none_read levels file at end a)

-- an algorithm is found where the first element stands for one
pub first_has : (levels : ℕ) (file : List ℕ) (at end : ℕ) (t : Tree) (ts : Forest) → At levels file at end (more t ts) → has_algorithm_of file at end ≡ is_algorithm t
first_has levels file at end t ts a =
    ap (λ (r : Result Span ℕ). is_ok ((r >>= tagged at (is 0x30)) >>= (λ e. expect_of 6 file e.body e.end))) (first_read levels file at end t ts a)
    ∙ by (is 0x30 (tag_of t)) refl
  where
    by : (b : Bool) → is 0x30 (tag_of t) ≡ b → is_ok (cond b (Ok (located at t)) (Err at) >>= (λ e. expect_of 6 file e.body e.end)) ≡ (b && begins 6 (parts_of t))
    by true q = begins_read 6 (levels - 1) file _ _ (parts_of t) (inside_at levels file at end t ts a 0x30 (eqb-true (tag_of t) 0x30 q) seq)
    by false q = refl

module _ (levels : ℕ) (file : List ℕ) (whole : Span) where
  link_list : (t : Tree) (ts : Forest) (at : ℕ) → At levels file at whole.end (more t ts) → tag_of t ≡ 0x30 → broke (list_in file (located at t)) ≡ entries (at + head_size t) (parts_of t)
  link_list t ts at a e = link_list_entries (expect_of 4) (is 4) free levels file (λ stop. each_allowed (levels - 1) file stop (is 4)) at whole.end t ts a 0x30 e seq

  -- the three lists
  link_lists : (o : Option AlgorithmParts) (ts : Forest) → At levels file (behind algorithm_stop whole.body o) whole.end ts →
      broke (lists_behind file whole o) ≡ lists (behind algorithm_stop whole.body o) ts
  link_lists o ts a =
      link_record levels file whole.end 0x30 entries (field (is 0x30) entries (field (is 0x30) entries nothing)) (list_in file) entries_stop _ _ ts a (entries_stop_lem (list_of (expect_of 4)) file)
      (λ t₁ ts₁ a₁ e₁. link_list t₁ ts₁ _ a₁ e₁)
      (λ c ts₁ a₁.
      link_record levels file whole.end 0x30 entries (field (is 0x30) entries nothing) (list_in file) entries_stop _ _ ts₁ a₁ (entries_stop_lem (list_of (expect_of 4)) file)
      (λ t₂ ts₂ a₂ e₂. link_list t₂ ts₂ _ a₂ e₂)
      (λ r ts₂ a₂.
      link_record levels file whole.end 0x30 entries nothing (list_in file) entries_stop _ _ ts₂ a₂ (entries_stop_lem (list_of (expect_of 4)) file)
      (λ t₃ ts₃ a₃ e₃. link_list t₃ ts₃ _ a₃ e₃)
      (λ u ts₃ a₃. link_end _ _ ∙ link_nothing levels file whole.end _ ts₃ a₃)))

  -- the algorithm, where the first element stands for one
  link_first : (t : Tree) (ts : Forest) → At levels file whole.body whole.end (more t ts) → (b : Bool) → is_algorithm t ≡ b →
      broke (cond b (algorithm_of file whole.body whole.end >>= (λ x. Ok (Some x))) (Ok None) >>= lists_behind file whole)
      ≡ cond b (onward algorithm lists whole.body t ts) (lists whole.body (more t ts))
  link_first t ts a true q =
      ap {A = Result IndexParts ℕ} broke (then_then (algorithm_of file whole.body whole.end) (λ x. Ok (Some x)) (lists_behind file whole))
      ∙ link_record levels file whole.end 0x30 algorithm lists (algorithm_in file) algorithm_stop (λ x. lists_behind file whole (Some x)) whole.body (more t ts) a (algorithm_stop_lem file)
      (λ t₁ ts₁ a₁ e₁. link_algorithm (levels - 1) file (located _ t₁) _ (inside_at levels file _ _ t₁ ts₁ a₁ 0x30 e₁ seq))
      (λ y ts₁ a₁. link_lists (Some y) ts₁ a₁)
      ∙ cond-true (is 0x30 (tag_of t)) _ _ (and_both (is 0x30 (tag_of t)) (begins 6 (parts_of t)) q).0
  link_first t ts a false q = link_lists None (more t ts) a

  -- the contents of an index
  pub link_index : (ts : Forest) → At levels file whole.body whole.end ts → broke (index_in file whole) ≡ index whole.body ts
  link_index none a =
      ap (λ (b : Bool). broke (cond b (algorithm_of file whole.body whole.end >>= (λ x. Ok (Some x))) (Ok None) >>= lists_behind file whole)) (none_has levels file _ _ a)
      ∙ link_lists None none a
  link_index (more t ts) a =
      ap (λ (b : Bool). broke (cond b (algorithm_of file whole.body whole.end >>= (λ x. Ok (Some x))) (Ok None) >>= lists_behind file whole)) (first_has levels file _ _ t ts a)
      ∙ link_first t ts a (is_algorithm t) refl

-- the index that begins with the tree, and the bytes behind it
module _ (file : List ℕ) (at end : ℕ) (t : Tree) (surplus : List ℕ) (levels : ℕ) (v : Valid t levels) (room : end ≤ length file) (e : encode t ++ surplus ≡ part file at end) where
  link_surplus : (s : List ℕ) → surplus ≡ s → broke (finish_of (at + head_size t + body_size t) end) ≡ surplus_at (at + head_size t + body_size t) s
  link_surplus [] q =
      ap {A = Result (Unit {0}) ℕ} broke (cond-false (ltb (at + head_size t + body_size t) end) _ _ (le-ltb _ _ (omega (arith, front_size levels file at end t surplus v room e, ap length q))))
  link_surplus (b ∷ bs) q =
      ap {A = Result (Unit {0}) ℕ} broke (cond-true (ltb (at + head_size t + body_size t) end) _ _ (lt-ltb _ _ (omega (arith, front_size levels file at end t surplus v room e, ap length q))))

  pub link_whole : broke (index_parts_of file at end) ≡ index_break at t surplus
  link_whole =
      ap (λ (r : Result Span ℕ). broke ((r >>= tagged at (is 0x30)) >>= rest)) (front_read levels file at end t surplus v room e)
      ∙ by_tag (is 0x30 (tag_of t)) (located at t) at rest _ (λ b.
      link_then _ _ _ _
      (link_index (levels - 1) file (located at t) (parts_of t)
      (inside_at levels file at _ t none (front_at levels file at end t surplus v room e) 0x30 (eqb-true (tag_of t) 0x30 b) seq))
      (λ m _. link_end _ _ ∙ link_surplus surplus refl))
    where
      rest : Span → Result IndexParts ℕ
      rest whole = index_in file whole >>= (λ m. finish_of whole.end end >>= (λ _. Ok m))
