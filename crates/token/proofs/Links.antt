-- The reading of what a token tells breaks off where its rules break.
use Rattle.std.proofs.Common.{◌≡◌, ℕ, ◌+◌, ◌-◌, ◌≤◌, eqb, ltb, List, [], ◌∷◌, ◌++◌, length, None, Ok, Result, sym, refl, ap, ◌∙◌, arith}
use Rattle.std.proofs.lemmas.Bool.{cond-true, cond-false, eqb-true, lt-ltb, le-ltb}
use Rattle.der.specs.declared.span.Span.{Span}
use Rattle.der.specs.Spans.{part}
use Rattle.der.specs.Trees.{Tree, Forest, none, Valid, encode, tag_of}
use Rattle.fields.specs.Reads.{◌>>=◌, is, tagged, finish_of, broke}
use Rattle.fields.specs.Placed.{located}
use Rattle.fields.specs.Rules.{parts_of, head_size, body_size, nothing, free, field}
use Rattle.fields.proofs.Tags.{seq}
use Rattle.fields.proofs.Standing.{At, rest_at, inside_at, front_size, front_read, front_at}
use Rattle.fields.proofs.Links.{or_none, link_then, link_end, by_tag, by_flag, link_field, link_record, link_nothing, link_number}
use Rattle.cms.specs.Grammar.{surplus_at}
use Rattle.index.specs.Grammar.{algorithm}
use Rattle.index.specs.Records.{algorithm_in, algorithm_stop}
use Rattle.index.proofs.AlgorithmLinks.{link_algorithm, algorithm_stop_lem}
use Rattle.token.specs.declared.located.InfoParts.{InfoParts}
use Rattle.token.specs.Grammar.{digest, imprint, info_fields, by_info_version, info, first_info_break}
use Rattle.token.specs.Records.{imprint_in, info_in, info_of}

-- the contents of the imprint field
link_imprint : (levels : ℕ) (file : List ℕ) (field : Span) (ts : Forest) → At levels file field.body field.end ts → broke (imprint_in file field) ≡ imprint field.body ts
link_imprint levels file whole ts a =
    link_record levels file whole.end 0x30 algorithm digest (algorithm_in file) algorithm_stop _ _ ts a
    (algorithm_stop_lem file)
    (λ t₁ ts₁ a₁ e₁. link_algorithm (levels - 1) file (located _ t₁) _ (inside_at levels file _ _ t₁ ts₁ a₁ 0x30 e₁ seq))
    (λ y ts₁ a₁.
    link_field levels file whole.end 4 free nothing _ _ ts₁ a₁ (λ t₂ ts₂ a₂ e₂.
    link_end _ _ ∙ link_nothing levels file whole.end _ ts₂ (rest_at levels file _ _ t₂ ts₂ a₂)))

no_version : (body : List ℕ) → (length body ≡ 1 → ⊥) → by_info_version body ≡ None
no_version [] n = refl
no_version (v ∷ []) n = absurd (n refl)
no_version (v ∷ w ∷ ws) n = refl

-- the contents of the element
pub link_info : (levels : ℕ) (file : List ℕ) (whole : Span) (ts : Forest) → At levels file whole.body whole.end ts → broke (info_in file whole) ≡ info whole.body ts
link_info levels file whole ts a =
    link_number levels file whole.end by_info_version _ whole.body ts a no_version (λ t₁ ts₁ a₁ v e₁.
    by_flag (eqb v 1) whole.body _ ts₁ _ info_fields (
    link_field levels file whole.end 6 free (field (is 0x30) imprint free) _ _ ts₁ (rest_at levels file _ _ t₁ ts₁ a₁) (λ t₂ ts₂ a₂ e₂.
    link_field levels file whole.end 0x30 imprint free _ _ ts₂ (rest_at levels file _ _ t₂ ts₂ a₂) (λ t₃ ts₃ a₃ e₃.
    link_end _ _ ∙ link_imprint (levels - 1) file (located _ t₃) _ (inside_at levels file _ _ t₃ ts₃ a₃ 0x30 e₃ seq) ∙ sym (or_none _)))))

-- the element that begins with the tree, and the bytes behind it
module _ (file : List ℕ) (at end : ℕ) (t : Tree) (surplus : List ℕ) (levels : ℕ) (v : Valid t levels) (room : end ≤ length file) (e : encode t ++ surplus ≡ part file at end) where
  link_surplus : (s : List ℕ) → surplus ≡ s → broke (finish_of (at + head_size t + body_size t) end) ≡ surplus_at (at + head_size t + body_size t) s
  link_surplus [] q =
      ap {A = Result (Unit {0}) ℕ} broke (cond-false (ltb (at + head_size t + body_size t) end) _ _ (le-ltb _ _ (omega (arith, front_size levels file at end t surplus v room e, ap length q))))
  link_surplus (b ∷ bs) q =
      ap {A = Result (Unit {0}) ℕ} broke (cond-true (ltb (at + head_size t + body_size t) end) _ _ (lt-ltb _ _ (omega (arith, front_size levels file at end t surplus v room e, ap length q))))

  pub link_whole : broke (info_of file at end) ≡ first_info_break at t surplus
  link_whole =
      ap (λ (r : Result Span ℕ). broke ((r >>= tagged at (is 0x30)) >>= rest)) (front_read levels file at end t surplus v room e)
      ∙ by_tag (is 0x30 (tag_of t)) (located at t) at rest _ (λ b.
      link_then _ _ _ _
      (link_info (levels - 1) file (located at t) (parts_of t) (inside_at levels file at _ t none (front_at levels file at end t surplus v room e) 0x30 (eqb-true (tag_of t) 0x30 b) seq))
      (λ m _. link_end _ _ ∙ link_surplus surplus refl))
    where
      rest : Span → Result InfoParts ℕ
      rest whole = info_in file whole >>= (λ m. finish_of whole.end end >>= (λ _. Ok m))
