-- The reading of a carried index breaks off where its rules break, and what it gives lies where the trees say.
use Rattle.std.proofs.Common.{◌≡◌, ℕ, ◌-◌, List, Ok, Result, sym, refl, ap, ◌∙◌, subst}
use Rattle.der.specs.declared.span.Span.{Span}
use Rattle.der.specs.Trees.{Forest, none, more}
use Rattle.fields.specs.Reads.{◌>>=◌, finish_of, broke}
use Rattle.fields.specs.Placed.{located, span_of, placed_from, inside_of, nth}
use Rattle.fields.specs.Rules.{parts_of, nothing}
use Rattle.fields.proofs.Steps.{Gives, gives_err}
use Rattle.fields.proofs.Tags.{seq, set, field_one}
use Rattle.fields.proofs.Standing.{At, none_read, first_read, rest_at, inside_at}
use Rattle.fields.proofs.Links.{link_then, link_end, link_field, link_nothing, link_named}
use Rattle.fields.proofs.Places.{lie_then, lie_check, lie_field, lie_named}
use Rattle.stamp_model.specs.Stamps.{index_kind}
use Rattle.stamp.specs.Grammar.{one_value, values, index_attribute, one_attribute, carried}
use Rattle.stamp.specs.Places.{carried_at}
use Rattle.stamp.specs.Records.{value_in, attribute_in, unsigned_in, carried_of}

-- the one value
link_value : (levels : ℕ) (file : List ℕ) (e : Span) (ts : Forest) → At levels file e.body e.end ts → broke (value_in file e) ≡ one_value e.body ts
link_value levels file e none a = ap (λ (r : Result Span ℕ). broke (r >>= rest)) (none_read levels file e.body e.end a)
  where
    rest : Span → Result Span ℕ
    rest value = finish_of value.end e.end >>= (λ _. Ok value)
link_value levels file e (more t ts) a =
    ap (λ (r : Result Span ℕ). broke (r >>= rest)) (first_read levels file e.body e.end t ts a)
    ∙ link_end _ _ ∙ link_nothing levels file e.end _ ts (rest_at levels file _ _ t ts a)
  where
    rest : Span → Result Span ℕ
    rest value = finish_of value.end e.end >>= (λ _. Ok value)

-- the attribute
link_attribute : (levels : ℕ) (file : List ℕ) (e : Span) (ts : Forest) → At levels file e.body e.end ts → broke (attribute_in file e) ≡ index_attribute e.body ts
link_attribute levels file e ts a =
    link_named levels file e.end index_kind values _ _ ts a (λ t₁ ts₁ a₁.
    link_field levels file e.end 0x31 one_value nothing _ _ ts₁ (rest_at levels file _ _ t₁ ts₁ a₁) (λ t₂ ts₂ a₂ e₂.
    link_then _ _ _ _ (link_value (levels - 1) file (located _ t₂) _ (inside_at levels file _ _ t₂ ts₂ a₂ 0x31 e₂ set))
    (λ _ _. link_end _ _ ∙ link_nothing levels file e.end _ ts₂ (rest_at levels file _ _ t₂ ts₂ a₂))))

-- the field around it
link_unsigned : (levels : ℕ) (file : List ℕ) (e : Span) (ts : Forest) → At levels file e.body e.end ts → broke (unsigned_in file e) ≡ one_attribute e.body ts
link_unsigned levels file e ts a =
    link_field levels file e.end 0x30 index_attribute nothing _ _ ts a (λ t₁ ts₁ a₁ e₁.
    link_then _ _ _ _ (link_attribute (levels - 1) file (located _ t₁) _ (inside_at levels file _ _ t₁ ts₁ a₁ 0x30 e₁ seq))
    (λ _ _. link_end _ _ ∙ link_nothing levels file e.end _ ts₁ (rest_at levels file _ _ t₁ ts₁ a₁)))

pub link_carried : (levels : ℕ) (file : List ℕ) (at end : ℕ) (ts : Forest) → At levels file at end ts → broke (carried_of file at end) ≡ carried at ts
link_carried levels file at end ts a =
    link_field levels file end 0xa1 one_attribute nothing _ _ ts a (λ t₁ ts₁ a₁ e₁.
    link_then _ _ _ _ (link_unsigned (levels - 1) file (located _ t₁) _ (inside_at levels file _ _ t₁ ts₁ a₁ 0xa1 e₁ field_one))
    (λ _ _. link_end _ _ ∙ link_nothing levels file end _ ts₁ (rest_at levels file _ _ t₁ ts₁ a₁)))

-- where the value lies
abbrev ValueLies : ℕ → Forest → Span → Type 0
ValueLies at ts y = y ≡ span_of (nth 0 (placed_from at ts))

value_lies : (levels : ℕ) (file : List ℕ) (e : Span) (ts : Forest) → At levels file e.body e.end ts → Gives (ValueLies e.body ts) (value_in file e)
value_lies levels file e none a = subst (λ (r : Result Span ℕ). Gives (ValueLies e.body none) (r >>= rest)) (sym (none_read levels file e.body e.end a)) (gives_err _ _)
  where
    rest : Span → Result Span ℕ
    rest value = finish_of value.end e.end >>= (λ _. Ok value)
value_lies levels file e (more t ts) a = subst (λ (r : Result Span ℕ). Gives (ValueLies e.body (more t ts)) (r >>= rest)) (sym (first_read levels file e.body e.end t ts a)) (lie_check _ _ _ refl)
  where
    rest : Span → Result Span ℕ
    rest value = finish_of value.end e.end >>= (λ _. Ok value)

abbrev AttributeLies : ℕ → Forest → Span → Type 0
AttributeLies at ts y = y ≡ span_of (nth 0 (inside_of (nth 1 (placed_from at ts))))

attribute_lies : (levels : ℕ) (file : List ℕ) (e : Span) (ts : Forest) → At levels file e.body e.end ts → Gives (AttributeLies e.body ts) (attribute_in file e)
attribute_lies levels file e ts a =
    lie_named levels file e.end index_kind (AttributeLies e.body) _ _ ts a (λ t₁ ts₁ a₁.
    lie_field levels file e.end 0x31 (λ us. AttributeLies e.body (more t₁ us)) _ _ ts₁ (rest_at levels file _ _ t₁ ts₁ a₁) (λ t₂ ts₂ a₂ e₂.
    lie_then (ValueLies _ (parts_of t₂)) _ _ _ (value_lies (levels - 1) file (located _ t₂) (parts_of t₂) (inside_at levels file _ _ t₂ ts₂ a₂ 0x31 e₂ set)) (λ y q. lie_check _ _ _ q)))

abbrev UnsignedLies : ℕ → Forest → Span → Type 0
UnsignedLies at ts y = y ≡ span_of (nth 0 (inside_of (nth 1 (inside_of (nth 0 (placed_from at ts))))))

unsigned_lies : (levels : ℕ) (file : List ℕ) (e : Span) (ts : Forest) → At levels file e.body e.end ts → Gives (UnsignedLies e.body ts) (unsigned_in file e)
unsigned_lies levels file e ts a =
    lie_field levels file e.end 0x30 (UnsignedLies e.body) _ _ ts a (λ t₁ ts₁ a₁ e₁.
    lie_then (AttributeLies _ (parts_of t₁)) _ _ _ (attribute_lies (levels - 1) file (located _ t₁) (parts_of t₁) (inside_at levels file _ _ t₁ ts₁ a₁ 0x30 e₁ seq)) (λ y q. lie_check _ _ _ q))

pub carried_lies : (levels : ℕ) (file : List ℕ) (at end : ℕ) (ts : Forest) → At levels file at end ts → Gives (λ y. y ≡ carried_at at ts) (carried_of file at end)
carried_lies levels file at end ts a =
    lie_field levels file end 0xa1 (λ us y. y ≡ carried_at at us) _ _ ts a (λ t₁ ts₁ a₁ e₁.
    lie_then (UnsignedLies _ (parts_of t₁)) _ _ _ (unsigned_lies (levels - 1) file (located _ t₁) (parts_of t₁) (inside_at levels file _ _ t₁ ts₁ a₁ 0xa1 e₁ field_one)) (λ y q. lie_check _ _ _ q))
