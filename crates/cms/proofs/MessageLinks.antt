-- The reading of a message breaks off where its rules break.
use Rattle.std.proofs.Common.{◌≡◌, ℕ, ◌+◌, ◌-◌, ◌≤◌, Bool, true, false, cond, ◌||◌, eqb, ltb, List, [], ◌∷◌, ◌++◌, length, None, Ok, Option, Result, sym, refl, ap, ◌∙◌, arith}
use lib.Bits.{bit_and}
use Rattle.std.proofs.lemmas.Bool.{cond-true, cond-false, eqb-true, lt-ltb, le-ltb}
use Rattle.der.specs.declared.span.Span.{Span}
use Rattle.der.specs.Spans.{part}
use Rattle.der.specs.Trees.{Tree, leaf, node, Forest, none, more, Valid, encode, tag_of}
use Rattle.cms.specs.declared.located.Content.{Content}
use Rattle.cms.specs.declared.located.ContentInfo.{ContentInfo}
use Rattle.cms.specs.declared.located.Message.{Message}
use Rattle.cms.specs.declared.settings.ContentForm.{ContentForm}
use Rattle.cms.specs.declared.settings.ContentForm.TheVariants.{Any, TimeStampInfo}
use Rattle.cms.specs.declared.settings.Settings.{Settings}
use Rattle.cms.specs.Identifiers.{signed_data_id, time_stamp_info_id}
use Rattle.fields.specs.Reads.{◌>>=◌, is, tagged, allowed_of, expect_of, finish_of, list_of, entries_in, behind, span_stop, entries_stop, broke}
use Rattle.cms.specs.Records.{certificate_tags, revocation_tags, octet_tags, octets_in, content_in, or_detached, plain_in, info_in, info_stop, data_in, signed_data_in, message_in, message_of}
use Rattle.fields.specs.Placed.{located}
use Rattle.fields.specs.Rules.{parts_of, head_size, body_size, nothing, free, field, optional, list}
use Rattle.cms.specs.Grammar.{signers_by, signers, revocations, certificates, content, content_info, data_fields, by_data_version, signed_data, message_fields, message, surplus_at, first_break}
use Rattle.cms.proofs.Readings.{info_whole}
use Rattle.fields.proofs.Tags.{seq, set, field_zero, field_one, segments}
use Rattle.fields.proofs.Standing.{At, rest_at, inside_at, front_size, front_read, front_at}
use Rattle.fields.proofs.Links.{each_allowed, entries_stop_lem, link_then, link_end, by_tag, by_flag, link_allowed, link_field, link_nothing, link_list_entries, link_optional, link_maybe, link_record, link_number, link_named}
use Rattle.cms.proofs.SignerLinks.{link_signers}

-- an element whose tag says that bytes are inside has no parts
leaf_parts : (t : Tree) (levels : ℕ) → Valid t levels → bit_and (tag_of t) 32 ≡ 0 → parts_of t ≡ none
leaf_parts (leaf tag body) levels v z = refl
leaf_parts (node tag parts) levels v z = absurd (v.2 z)

by_octets : {X Y : Type 0} (b : Bool) (x : X) (r : Result Y ℕ) (f : Y → X) (o : Option ℕ) → (b ≡ true → None ≡ o) → (b ≡ false → broke r ≡ o) →
    broke (cond b (Ok x) (r >>= (λ y. Ok (f y)))) ≡ o
by_octets true x r f o g h = g refl
by_octets false x r f o g h = link_end r f ∙ h refl

pub or_other : (a b : Bool) → (a || b) ≡ true → a ≡ false → b ≡ true
or_other true b e z = let w : ◌≡◌ {A = ℕ} 0 1 = cc in absurd (omega arith)
or_other false b e z = e

-- plain content, or segments
link_octets : (levels : ℕ) (file : List ℕ) (field : Span) (at end : ℕ) (t : Tree) (ts : Forest) → At levels file at end (more t ts) → octet_tags (tag_of t) ≡ true →
    broke (octets_in file field (located at t)) ≡ list (is 4) free (at + head_size t) (parts_of t)
link_octets levels file field at end t ts a e =
    by_octets (eqb (tag_of t) 4) _ _ _ _
    (λ b. ap (list (is 4) free (at + head_size t)) (sym (leaf_parts t levels a.valid.0 (ap (λ (x : ℕ). bit_and x 32) (eqb-true (tag_of t) 4 b)))))
    (λ b. link_list_entries (expect_of 4) (is 4) free levels file (λ stop. each_allowed (levels - 1) file stop (is 4)) at end t ts a
    0x24 (eqb-true (tag_of t) 0x24 (or_other _ _ e b)) segments)

pub link_content : (levels : ℕ) (file : List ℕ) (field : Span) (ts : Forest) → At levels file field.body field.end ts →
    broke (content_in file field) ≡ content field.body ts
link_content levels file field ts a =
    link_allowed levels file field.end octet_tags (list (is 4) free) nothing _ _ ts a (λ t₁ ts₁ a₁ e₁.
    link_then _ _ _ _ (link_octets levels file field _ _ t₁ ts₁ a₁ e₁)
    (λ c _. link_end _ _ ∙ link_nothing levels file field.end _ ts₁ (rest_at levels file _ _ t₁ ts₁ a₁)))

-- one octet string, and nothing more
link_plain : (levels : ℕ) (file : List ℕ) (e : Span) (ts : Forest) → At levels file e.body e.end ts → broke (plain_in file e) ≡ field (is 4) free nothing e.body ts
link_plain levels file e ts a =
    link_field levels file e.end 4 free nothing _ _ ts a (λ t₁ ts₁ a₁ e₁. link_end _ _ ∙ link_nothing levels file e.end _ ts₁ (rest_at levels file _ _ t₁ ts₁ a₁))

-- the contents of the content info
pub link_info : (form : ContentForm) (levels : ℕ) (file : List ℕ) (whole : Span) (ts : Forest) → At levels file whole.body whole.end ts →
    broke (info_in form file whole) ≡ content_info form whole.body ts
link_info Any levels file whole ts a =
    link_field levels file whole.end 6 free (optional (is 0xa0) content nothing) _ _ ts a (λ t₁ ts₁ a₁ e₁.
    link_optional levels file whole.end 0xa0 content nothing (content_in file) (finished (located _ t₁)) _ ts₁ (rest_at levels file _ _ t₁ ts₁ a₁)
    (λ t₂ ts₂ a₂ e₂. link_content (levels - 1) file (located _ t₂) _ (inside_at levels file _ _ t₂ ts₂ a₂ 0xa0 e₂ field_zero))
    (λ o c ts₂ _ a₂. link_end _ _ ∙ link_nothing levels file whole.end _ ts₂ a₂))
  where
    finished : Span → Option Span → Option Content → Result ContentInfo ℕ
    finished kind o found = finish_of (behind span_stop kind.end o) whole.end >>= (λ _. Ok (record { whole = whole; kind = kind; content = or_detached found }))
link_info TimeStampInfo levels file whole ts a =
    link_named levels file whole.end time_stamp_info_id (field (is 0xa0) (field (is 4) free nothing) nothing) _ _ ts a (λ t₁ ts₁ a₁.
    link_field levels file whole.end 0xa0 (field (is 4) free nothing) nothing _ _ ts₁ (rest_at levels file _ _ t₁ ts₁ a₁) (λ t₂ ts₂ a₂ e₂.
    link_then _ _ _ _
    (link_plain (levels - 1) file (located _ t₂) _ (inside_at levels file _ _ t₂ ts₂ a₂ 0xa0 e₂ field_zero))
    (λ o _. link_end _ _ ∙ link_nothing levels file whole.end _ ts₂ (rest_at levels file _ _ t₂ ts₂ a₂))))

no_version : (settings : Settings) (body : List ℕ) → (length body ≡ 1 → ⊥) → by_data_version settings body ≡ None
no_version settings [] n = refl
no_version settings (v ∷ []) n = absurd (n refl)
no_version settings (v ∷ w ∷ ws) n = refl

-- the contents of the signed data
pub link_data : (settings : Settings) (levels : ℕ) (file : List ℕ) (whole : Span) (ts : Forest) → At levels file whole.body whole.end ts →
    broke (data_in settings file whole) ≡ signed_data settings whole.body ts
link_data settings levels file whole ts a =
    link_number levels file whole.end (by_data_version settings) _ whole.body ts a (no_version settings) (λ t₁ ts₁ a₁ v e₁.
    by_flag (eqb v 1 || (eqb v 3 || (eqb v 4 || eqb v 5))) whole.body _ ts₁ _ (data_fields settings) (
    link_field levels file whole.end 0x31 free (field (is 0x30) (content_info settings.content) (certificates settings.signers)) _ _ ts₁ (rest_at levels file _ _ t₁ ts₁ a₁) (λ t₂ ts₂ a₂ e₂.
    link_record levels file whole.end 0x30 (content_info settings.content) (certificates settings.signers) (info_in settings.content file) info_stop _ _ ts₂ (rest_at levels file _ _ t₂ ts₂ a₂)
    (λ e info q. ap (λ (x : Span). x.end) (info_whole settings.content file e info q))
    (λ t₃ ts₃ a₃ e₃. link_info settings.content (levels - 1) file (located _ t₃) _ (inside_at levels file _ _ t₃ ts₃ a₃ 0x30 e₃ seq))
    (λ info ts₃ a₃.
    link_maybe levels file whole.end 0xa0 (list certificate_tags free) (revocations settings.signers) (entries_in (list_of (allowed_of certificate_tags)) file) entries_stop _ _ ts₃ a₃
    (entries_stop_lem (list_of (allowed_of certificate_tags)) file)
    (λ t₄ ts₄ a₄ e₄. link_list_entries (allowed_of certificate_tags) certificate_tags free levels file (λ stop. each_allowed (levels - 1) file stop certificate_tags) _ _ t₄ ts₄ a₄ 0xa0 e₄ field_zero)
    (λ certs ts₄ a₄.
    link_maybe levels file whole.end 0xa1 (list revocation_tags free) (signers settings.signers) (entries_in (list_of (allowed_of revocation_tags)) file) entries_stop _ _ ts₄ a₄
    (entries_stop_lem (list_of (allowed_of revocation_tags)) file)
    (λ t₅ ts₅ a₅ e₅. link_list_entries (allowed_of revocation_tags) revocation_tags free levels file (λ stop. each_allowed (levels - 1) file stop revocation_tags) _ _ t₅ ts₅ a₅ 0xa1 e₅ field_one)
    (λ revs ts₅ a₅.
    link_field levels file whole.end 0x31 (signers_by settings.signers) nothing _ _ ts₅ a₅ (λ t₆ ts₆ a₆ e₆.
    link_then _ _ _ _ (link_end _ _ ∙ link_signers settings.signers (levels - 1) file _ _ _ (inside_at levels file _ _ t₆ ts₆ a₆ 0x31 e₆ set))
    (λ sigs _. link_end _ _ ∙ link_nothing levels file whole.end _ ts₆ (rest_at levels file _ _ t₆ ts₆ a₆)))))))))

-- the signed data in its field
link_signed_data : (settings : Settings) (levels : ℕ) (file : List ℕ) (e : Span) (ts : Forest) → At levels file e.body e.end ts →
    broke (signed_data_in settings file e) ≡ field (is 0x30) (signed_data settings) nothing e.body ts
link_signed_data settings levels file e ts a =
    link_field levels file e.end 0x30 (signed_data settings) nothing _ _ ts a (λ t₁ ts₁ a₁ e₁.
    link_then _ _ _ _ (link_data settings (levels - 1) file (located _ t₁) _ (inside_at levels file _ _ t₁ ts₁ a₁ 0x30 e₁ seq))
    (λ m _. link_end _ _ ∙ link_nothing levels file e.end _ ts₁ (rest_at levels file _ _ t₁ ts₁ a₁)))

-- the contents of the message
pub link_fields : (settings : Settings) (levels : ℕ) (file : List ℕ) (whole : Span) (ts : Forest) → At levels file whole.body whole.end ts →
    broke (message_in settings file whole) ≡ message settings whole.body ts
link_fields settings levels file whole ts a =
    link_named levels file whole.end signed_data_id (message_fields settings) _ _ ts a (λ t₁ ts₁ a₁.
    link_field levels file whole.end 0xa0 (field (is 0x30) (signed_data settings) nothing) nothing _ _ ts₁ (rest_at levels file _ _ t₁ ts₁ a₁) (λ t₂ ts₂ a₂ e₂.
    link_then _ _ _ _ (link_signed_data settings (levels - 1) file (located _ t₂) _ (inside_at levels file _ _ t₂ ts₂ a₂ 0xa0 e₂ field_zero))
    (λ m _. link_end _ _ ∙ link_nothing levels file whole.end _ ts₂ (rest_at levels file _ _ t₂ ts₂ a₂))))

-- the message that begins with the tree, and the bytes behind it
module _ (settings : Settings) (file : List ℕ) (at end : ℕ) (t : Tree) (surplus : List ℕ) (levels : ℕ) (v : Valid t levels) (room : end ≤ length file) (e : encode t ++ surplus ≡ part file at end) where
  link_surplus : (s : List ℕ) → surplus ≡ s → broke (finish_of (at + head_size t + body_size t) end) ≡ surplus_at (at + head_size t + body_size t) s
  link_surplus [] q =
      ap {A = Result (Unit {0}) ℕ} broke (cond-false (ltb (at + head_size t + body_size t) end) _ _ (le-ltb _ _ (omega (arith, front_size levels file at end t surplus v room e, ap length q))))
  link_surplus (b ∷ bs) q =
      ap {A = Result (Unit {0}) ℕ} broke (cond-true (ltb (at + head_size t + body_size t) end) _ _ (lt-ltb _ _ (omega (arith, front_size levels file at end t surplus v room e, ap length q))))

  pub link_message : broke (message_of settings file at end) ≡ first_break settings at t surplus
  link_message =
      ap (λ (r : Result Span ℕ). broke ((r >>= tagged at (is 0x30)) >>= rest)) (front_read levels file at end t surplus v room e)
      ∙ by_tag (is 0x30 (tag_of t)) (located at t) at rest _ (λ b.
      link_then _ _ _ _
      (link_fields settings (levels - 1) file (located at t) (parts_of t)
      (inside_at levels file at _ t none (front_at levels file at end t surplus v room e) 0x30 (eqb-true (tag_of t) 0x30 b) seq))
      (λ m _. link_end _ _ ∙ link_surplus surplus refl))
    where
      rest : Span → Result Message ℕ
      rest whole = message_in settings file whole >>= (λ m. finish_of whole.end end >>= (λ _. Ok m))
