-- The readings of attributes and signers break off where their rules break.
use Rattle.std.proofs.Common.{◌≡◌, ℕ, ◌-◌, Bool, true, false, cond, eqb, List, [], ◌∷◌, length, Some, None, Ok, Err, Result, sym, refl, ap, ◌∙◌}
use Rattle.der.specs.declared.span.Span.{Span}
use Rattle.der.specs.Trees.{Forest}
use Rattle.cms.specs.declared.settings.SignerCount.{SignerCount}
use Rattle.cms.specs.declared.settings.SignerCount.TheVariants.{AtLeastOne, ExactlyOne, Nobody}
use Rattle.fields.specs.Reads.{◌>>=◌, is, any_of, expect_of, list_of, some_of, entries_in, finish_of, span_stop, entries_stop, broke}
use Rattle.cms.specs.Records.{attribute_in, attribute_of, attribute_entry, signer_in, signer_of, signer_stop, signer_entry, signers_in}
use Rattle.fields.specs.Placed.{located}
use Rattle.fields.specs.Rules.{parts_of, Rule, nothing, free, field, list, some, follow}
use Rattle.cms.specs.Grammar.{any, attribute, unsigned_attributes, from_signature, from_signed, signer_fields, by_version, signer, signers_by}
use Rattle.fields.proofs.Steps.{then_then, then_from, ok_same}
use Rattle.cms.proofs.Readings.{attribute_read, signer_read}
use Rattle.fields.proofs.Tags.{seq, set, field_zero, field_one}
use Rattle.fields.proofs.Standing.{At, rest_at, inside_at}
use Rattle.fields.proofs.Links.{Each, each_any, each_record, entries_stop_lem, or_none, link_then, link_end, link_field, link_nothing, link_some, link_list_entries, link_some_entries, link_maybe, link_record, link_number}

-- the contents of an attribute
pub link_attribute : (levels : ℕ) (file : List ℕ) (whole : Span) (ts : Forest) → At levels file whole.body whole.end ts →
    broke (attribute_in file whole) ≡ attribute whole.body ts
link_attribute levels file whole ts a =
    link_field levels file whole.end 6 free (field (is 0x31) (some any free) nothing) _ whole.body ts a (λ t₁ ts₁ a₁ e₁.
    link_field levels file whole.end 0x31 (some any free) nothing _ _ ts₁ (rest_at levels file _ _ t₁ ts₁ a₁) (λ t₂ ts₂ a₂ e₂.
    link_then _ _ _ _
    (link_some_entries any_of any free levels file (λ stop. each_any (levels - 1) file stop any (λ _. refl)) _ _ t₂ ts₂ a₂ 0x31 e₂ set)
    (λ values _. link_end _ _ ∙ link_nothing levels file whole.end _ ts₂ (rest_at levels file _ _ t₂ ts₂ a₂))))

pub each_attribute : (levels : ℕ) (file : List ℕ) (end : ℕ) → Each levels file end attribute_entry (is 0x30) attribute
each_attribute levels file end =
    each_record levels file end attribute_in (λ a. a.whole) attribute (λ e x q. ((attribute_read file e).holds x q).same) (link_attribute (levels - 1) file)

-- the version decides on the identifier's tag
by_version_lem : {X : Type 0} (one three : Bool) (place p : ℕ) (ts : Forest) (k : ℕ → Result X ℕ) (fields : ℕ → Rule) → ((tag : ℕ) → broke (k tag) ≡ fields tag p ts) →
    broke (cond one (Ok 0x30) (cond three (Ok 0x80) (Err place)) >>= k) ≡ follow (cond one (Some (fields 0x30)) (cond three (Some (fields 0x80)) None)) place p ts
by_version_lem true three place p ts k fields f = f 0x30
by_version_lem false true place p ts k fields f = f 0x80
by_version_lem false false place p ts k fields f = refl

no_version : (body : List ℕ) → (length body ≡ 1 → ⊥) → by_version body ≡ None
no_version [] n = refl
no_version (v ∷ []) n = absurd (n refl)
no_version (v ∷ w ∷ ws) n = refl

abbrev pub algorithm_in : List ℕ → Span → Result Span ℕ
algorithm_in file whole = expect_of 6 file whole.body whole.end >>= (λ _. Ok whole)

algorithm_stop_lem : (file : List ℕ) (e y : Span) → algorithm_in file e ≡ Ok y → y.end ≡ e.end
algorithm_stop_lem file e y q =
    let (x, q₁, k₁) = then_from (expect_of 6 file e.body e.end) (λ _. Ok e) y q in
    ap (λ (s : Span). s.end) (sym (ok_same k₁))

link_algorithm : (levels : ℕ) (file : List ℕ) (whole : Span) (ts : Forest) → At levels file whole.body whole.end ts →
    broke (algorithm_in file whole) ≡ field (is 6) free free whole.body ts
link_algorithm levels file whole ts a = link_field levels file whole.end 6 free free _ _ ts a (λ t₁ ts₁ a₁ e₁. refl)

-- the contents of a signer
pub link_signer : (levels : ℕ) (file : List ℕ) (whole : Span) (ts : Forest) → At levels file whole.body whole.end ts →
    broke (signer_in file whole) ≡ signer whole.body ts
link_signer levels file whole ts a =
    link_number levels file whole.end by_version _ whole.body ts a no_version (λ t₁ ts₁ a₁ v e₁.
    by_version_lem (eqb v 1) (eqb v 3) whole.body _ ts₁ _ signer_fields (λ tag.
    link_field levels file whole.end tag free (field (is 0x30) (field (is 6) free free) from_signed) _ _ ts₁ (rest_at levels file _ _ t₁ ts₁ a₁) (λ t₂ ts₂ a₂ e₂.
    link_record levels file whole.end 0x30 (field (is 6) free free) from_signed (algorithm_in file) span_stop _ _ ts₂ (rest_at levels file _ _ t₂ ts₂ a₂) (algorithm_stop_lem file)
    (λ t₃ ts₃ a₃ e₃. link_algorithm (levels - 1) file (located _ t₃) _ (inside_at levels file _ _ t₃ ts₃ a₃ 0x30 e₃ seq))
    (λ digest ts₃ a₃.
    link_record levels file whole.end 0xa0 (list (is 0x30) attribute) from_signature (entries_in (list_of attribute_entry) file) entries_stop _ _ ts₃ a₃ (entries_stop_lem (list_of attribute_entry) file)
    (λ t₄ ts₄ a₄ e₄. link_list_entries attribute_entry (is 0x30) attribute levels file (each_attribute (levels - 1) file) _ _ t₄ ts₄ a₄ 0xa0 e₄ field_zero)
    (λ signed ts₄ a₄.
    link_field levels file whole.end 0x30 free (field (is 4) free unsigned_attributes) _ _ ts₄ a₄ (λ t₅ ts₅ a₅ e₅.
    link_field levels file whole.end 4 free unsigned_attributes _ _ ts₅ (rest_at levels file _ _ t₅ ts₅ a₅) (λ t₆ ts₆ a₆ e₆.
    link_maybe levels file whole.end 0xa1 (some (is 0x30) attribute) nothing (entries_in (some_of attribute_entry) file) entries_stop _ _ ts₆ (rest_at levels file _ _ t₆ ts₆ a₆)
    (entries_stop_lem (some_of attribute_entry) file)
    (λ t₇ ts₇ a₇ e₇. link_some_entries attribute_entry (is 0x30) attribute levels file (each_attribute (levels - 1) file) _ _ t₇ ts₇ a₇ 0xa1 e₇ field_one)
    (λ unsigned ts₇ a₇. link_end _ _ ∙ link_nothing levels file whole.end _ ts₇ a₇))))))))

pub each_signer : (levels : ℕ) (file : List ℕ) (end : ℕ) → Each levels file end signer_entry (is 0x30) signer
each_signer levels file end =
    each_record levels file end signer_in (λ s. s.whole) signer (λ e x q. ((signer_read file e).holds x q).same) (link_signer (levels - 1) file)

-- the attribute and the signer that stand first
pub link_attribute_of : (levels : ℕ) (file : List ℕ) (at end : ℕ) (ts : Forest) → At levels file at end ts → broke (attribute_of file at end) ≡ field (is 0x30) attribute free at ts
link_attribute_of levels file at end ts a =
    link_field levels file end 0x30 attribute free (attribute_in file) at ts a (λ t₁ ts₁ a₁ e₁.
    link_attribute (levels - 1) file (located at t₁) (parts_of t₁) (inside_at levels file at end t₁ ts₁ a₁ 0x30 e₁ seq) ∙ sym (or_none _))

pub link_signer_of : (levels : ℕ) (file : List ℕ) (at end : ℕ) (ts : Forest) → At levels file at end ts → broke (signer_of file at end) ≡ field (is 0x30) signer free at ts
link_signer_of levels file at end ts a =
    link_field levels file end 0x30 signer free (signer_in file) at ts a (λ t₁ ts₁ a₁ e₁.
    link_signer (levels - 1) file (located at t₁) (parts_of t₁) (inside_at levels file at end t₁ ts₁ a₁ 0x30 e₁ seq) ∙ sym (or_none _))

-- the signers in their field
pub link_signers : (count : SignerCount) (levels : ℕ) (file : List ℕ) (end at : ℕ) (ts : Forest) → At levels file at end ts →
    broke (signers_in count file at end) ≡ signers_by count at ts
link_signers AtLeastOne levels file end at ts a = link_some levels file end signer_entry (is 0x30) signer (each_signer levels file end) at ts a
link_signers ExactlyOne levels file end at ts a =
    ap {A = Result ℕ ℕ} broke (then_then (expect_of 0x30 file at end >>= signer_in file) (λ s. Ok s.whole) (λ e. finish_of e.end end >>= (λ _. Ok 1)))
    ∙ link_record levels file end 0x30 signer nothing (signer_in file) signer_stop _ at ts a
    (λ e s q. ap (λ (x : Span). x.end) ((signer_read file e).holds s q).same)
    (λ t₁ ts₁ a₁ e₁. link_signer (levels - 1) file (located at t₁) _ (inside_at levels file at end t₁ ts₁ a₁ 0x30 e₁ seq))
    (λ s ts₁ a₁. link_end _ _ ∙ link_nothing levels file end _ ts₁ a₁)
link_signers Nobody levels file end at ts a = link_end _ _ ∙ link_nothing levels file end at ts a
