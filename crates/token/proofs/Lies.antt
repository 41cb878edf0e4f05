-- What is read of a token's contents lies where their tree says.
use Rattle.std.proofs.Common.{◌≡◌, ℕ, ◌-◌, ◌≤◌, List, ◌++◌, length, Ok, Result, sym, refl, subst}
use Rattle.std.proofs.lemmas.Bool.{eqb-true}
use Rattle.der.specs.declared.span.Span.{Span}
use Rattle.der.specs.Spans.{part}
use Rattle.der.specs.Trees.{Tree, Forest, none, more, Valid, encode, tag_of}
use Rattle.fields.specs.Reads.{◌>>=◌, is, tagged, finish_of}
use Rattle.fields.specs.Placed.{located, placed_from}
use Rattle.fields.specs.Rules.{parts_of}
use Rattle.fields.proofs.Steps.{Gives, gives_ok}
use Rattle.fields.proofs.Tags.{seq}
use Rattle.fields.proofs.Standing.{At, rest_at, inside_at, front_read, front_at}
use Rattle.fields.proofs.Places.{by_cond, lie_then, lie_step, lie_check, lie_field, lie_record, lie_number}
use Rattle.index.specs.Places.{algorithm_at}
use Rattle.index.specs.Records.{algorithm_in}
use Rattle.index.proofs.AlgorithmLinks.{algorithm_lies}
use Rattle.token.specs.declared.located.ImprintParts.{ImprintParts}
use Rattle.token.specs.declared.located.InfoParts.{InfoParts}
use Rattle.token.specs.Places.{imprint_from, info_from, info_at}
use Rattle.token.specs.Records.{imprint_in, info_in, info_of}

abbrev ImprintLies : Span → Forest → ImprintParts → Type 0
ImprintLies field ts y = y ≡ imprint_from field (placed_from field.body ts)

imprint_lies : (levels : ℕ) (file : List ℕ) (field : Span) (ts : Forest) → At levels file field.body field.end ts → Gives (ImprintLies field ts) (imprint_in file field)
imprint_lies levels file field ts a =
    lie_record levels file field.end 0x30 algorithm_at (ImprintLies field) (algorithm_in file) _ _ ts a
    (λ t₁ ts₁ a₁ e₁. algorithm_lies (levels - 1) file (located _ t₁) (parts_of t₁) (inside_at levels file _ _ t₁ ts₁ a₁ 0x30 e₁ seq))
    (λ t₁ ts₁ a₁.
    lie_field levels file field.end 4 (λ us. ImprintLies field (more t₁ us)) _ _ ts₁ (rest_at levels file _ _ t₁ ts₁ a₁) (λ t₂ ts₂ a₂ e₂. lie_check _ _ _ refl))

abbrev InfoLies : Span → Forest → InfoParts → Type 0
InfoLies whole ts y = y ≡ info_from whole (placed_from whole.body ts)

with_imprint : (whole policy : Span) (i j : ImprintParts) → i ≡ j → ◌≡◌ {A = InfoParts} (record { whole = whole; policy = policy; imprint = i }) (record { whole = whole; policy = policy; imprint = j })
with_imprint whole policy i j q k = record { whole = whole; policy = policy; imprint = q k }

info_lies : (levels : ℕ) (file : List ℕ) (whole : Span) (ts : Forest) → At levels file whole.body whole.end ts → Gives (InfoLies whole ts) (info_in file whole)
info_lies levels file whole ts a =
    lie_number levels file whole.end (InfoLies whole) _ _ ts a (λ t₁ ts₁ a₁ v.
    lie_step _ _ _ (λ _.
    lie_field levels file whole.end 6 (λ us. InfoLies whole (more t₁ us)) _ _ ts₁ (rest_at levels file _ _ t₁ ts₁ a₁) (λ t₂ ts₂ a₂ e₂.
    lie_field levels file whole.end 0x30 (λ us. InfoLies whole (more t₁ (more t₂ us))) _ _ ts₂ (rest_at levels file _ _ t₂ ts₂ a₂) (λ t₃ ts₃ a₃ e₃.
    lie_then (ImprintLies (located _ t₃) (parts_of t₃)) _ _ _ (imprint_lies (levels - 1) file (located _ t₃) (parts_of t₃) (inside_at levels file _ _ t₃ ts₃ a₃ 0x30 e₃ seq))
    (λ y q. gives_ok _ _ (with_imprint _ _ _ _ q))))))

pub whole_lies : (file : List ℕ) (at end : ℕ) (t : Tree) (surplus : List ℕ) (levels : ℕ) → Valid t levels → end ≤ length file → encode t ++ surplus ≡ part file at end →
    Gives (λ y. y ≡ info_at at t) (info_of file at end)
whole_lies file at end t surplus levels v room e =
    subst (λ (r : Result Span ℕ). Gives (λ y. y ≡ info_at at t) ((r >>= tagged at (is 0x30)) >>= rest)) (sym (front_read levels file at end t surplus v room e))
    (by_cond (is 0x30 (tag_of t)) (λ y. y ≡ info_at at t) (located at t) at rest (λ b.
    lie_then (InfoLies (located at t) (parts_of t)) _ _ _
    (info_lies (levels - 1) file (located at t) (parts_of t) (inside_at levels file at _ t none (front_at levels file at end t surplus v room e) 0x30 (eqb-true (tag_of t) 0x30 b) seq))
    (λ y q. lie_check _ _ _ q)))
  where
    rest : Span → Result InfoParts ℕ
    rest whole = info_in file whole >>= (λ y. finish_of whole.end end >>= (λ _. Ok y))
