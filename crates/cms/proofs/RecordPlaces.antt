-- The records that are read lie where the tree says.
use Rattle.std.proofs.Common.{◌≡◌, ℕ, suc, ◌+◌, ◌-◌, ◌≤◌, Bool, true, false, cond, eqb, List, ◌∷◌, ◌++◌, length, Some, None, Ok, Option, Result, sym, refl, ap, ◌∙◌, subst}
use Rattle.std.proofs.lemmas.Bool.{cond-true, eqb-true, eq-eqb}
use Rattle.der.specs.declared.span.Span.{Span}
use Rattle.der.specs.Spans.{part}
use Rattle.der.specs.Trees.{Tree, Forest, none, more, Valid, encode, tag_of}
use Rattle.fields.specs.declared.located.Entries.{Entries}
use Rattle.cms.specs.declared.located.Attribute.{Attribute}
use Rattle.cms.specs.declared.located.Signer.{Signer}
use Rattle.cms.specs.declared.located.Content.{Content}
use Rattle.cms.specs.declared.located.Content.TheVariants.{Plain, Segmented}
use Rattle.cms.specs.declared.located.ContentInfo.{ContentInfo}
use Rattle.cms.specs.declared.located.Message.{Message}
use Rattle.cms.specs.declared.settings.SignerCount.{SignerCount}
use Rattle.cms.specs.declared.settings.SignerCount.TheVariants.{AtLeastOne, ExactlyOne, Nobody}
use Rattle.cms.specs.declared.settings.ContentForm.{ContentForm}
use Rattle.cms.specs.declared.settings.ContentForm.TheVariants.{Any, TimeStampInfo}
use Rattle.cms.specs.declared.settings.Settings.{Settings}
use Rattle.cms.specs.Identifiers.{signed_data_id, time_stamp_info_id}
use Rattle.fields.specs.Placed.{located, Placed, span_of, placed_from, inside_of, nth, if_first, past, mapped, entries_for}
use Rattle.cms.specs.Places.{attribute_from, attribute_at, signer_from, signer_at, content_from, content_at, info_from, info_at, data_from, data_at, message_at}
use Rattle.fields.specs.Reads.{◌>>=◌, is, any_of, tagged, allowed_of, expect_of, finish_of, list_of, some_of, entries_in, behind, span_stop, entries_stop}
use Rattle.cms.specs.Records.{attribute_in, attribute_of, attribute_entry, signer_in, signer_of, signer_entry, signers_in, or_detached, octet_tags, certificate_tags, revocation_tags, octets_in, content_in, plain_in, info_in, data_in, signed_data_in, message_in, message_of}
use Rattle.fields.specs.Rules.{parts_of, head_size, body_size, free}
use Rattle.cms.specs.Grammar.{any, attribute, signer}
use Rattle.fields.proofs.Steps.{then_then, Gives, gives_ok, gives_weaker}
use Rattle.fields.proofs.Tags.{seq, set, field_zero, field_one, segments}
use Rattle.fields.proofs.Standing.{At, rest_at, inside_at, front_read, front_at}
use Rattle.fields.proofs.Links.{each_any, each_allowed, entries_stop_lem}
use Rattle.cms.proofs.SignerLinks.{each_attribute, each_signer, algorithm_in}
use Rattle.cms.proofs.MessageLinks.{or_other}
use Rattle.fields.proofs.Places.{by_cond, lie_then, lie_step, lie_check, lie_field, lie_allowed, lie_finish, lie_number, lie_named, lie_record, lie_optional, lie_maybe, lie_some, lie_entries, lie_list_entries, lie_some_entries}

-- records that differ in one field
with_values : (whole kind : Span) (y z : Entries) → y ≡ z → ◌≡◌ {A = Attribute} (record { whole = whole; kind = kind; values = y }) (record { whole = whole; kind = kind; values = z })
with_values whole kind y z q i = record { whole = whole; kind = kind; values = q i }

with_content : (whole kind : Span) (y z : Content) → y ≡ z → ◌≡◌ {A = ContentInfo} (record { whole = whole; kind = kind; content = y }) (record { whole = whole; kind = kind; content = z })
with_content whole kind y z q i = record { whole = whole; kind = kind; content = q i }

abbrev signer_with : Span → Span → Span → Span → Entries → Span → Span → Option Entries → Signer
signer_with whole version identifier digest signed algorithm signature unsigned = record {
  whole = whole;
  version = version;
  identifier = identifier;
  digest = digest;
  signed = signed;
  algorithm = algorithm;
  signature = signature;
  unsigned = unsigned;
}

with_unsigned : (whole version identifier digest : Span) (signed : Entries) (algorithm signature : Span) (y z : Option Entries) → y ≡ z →
    signer_with whole version identifier digest signed algorithm signature y ≡ signer_with whole version identifier digest signed algorithm signature z
with_unsigned whole version identifier digest signed algorithm signature y z q i = signer_with whole version identifier digest signed algorithm signature (q i)

abbrev AttributeLies : Span → Forest → Attribute → Type 0
AttributeLies whole ts a = a ≡ attribute_from whole (placed_from whole.body ts)

pub attribute_lies : (levels : ℕ) (file : List ℕ) (whole : Span) (ts : Forest) → At levels file whole.body whole.end ts → Gives (AttributeLies whole ts) (attribute_in file whole)
attribute_lies levels file whole ts a =
    lie_field levels file whole.end 6 (AttributeLies whole) _ _ ts a (λ t₁ ts₁ a₁ e₁.
    lie_field levels file whole.end 0x31 (λ us. AttributeLies whole (more t₁ us)) _ _ ts₁ (rest_at levels file _ _ t₁ ts₁ a₁) (λ t₂ ts₂ a₂ e₂.
    lie_then (λ y. y ≡ entries_for (record { at = _; tree = t₂ })) _ _ _
    (lie_some_entries any_of any free levels file (λ stop. each_any (levels - 1) file stop any (λ _. refl)) _ _ t₂ ts₂ a₂ 0x31 e₂ set)
    (λ values q.
    lie_finish levels file whole.end (λ us. AttributeLies whole (more t₁ (more t₂ us))) _ _ ts₂ (rest_at levels file _ _ t₂ ts₂ a₂)
    (gives_ok _ _ (with_values _ _ _ _ q)))))

abbrev SignerLies : Span → Forest → Signer → Type 0
SignerLies whole ts s = s ≡ signer_from whole (placed_from whole.body ts)

pub signer_lies : (levels : ℕ) (file : List ℕ) (whole : Span) (ts : Forest) → At levels file whole.body whole.end ts → Gives (SignerLies whole ts) (signer_in file whole)
signer_lies levels file whole ts a =
    lie_number levels file whole.end (SignerLies whole) _ _ ts a (λ t₁ ts₁ a₁ v.
    lie_step _ _ _ (λ tag.
    lie_field levels file whole.end tag (λ us. SignerLies whole (more t₁ us)) _ _ ts₁ (rest_at levels file _ _ t₁ ts₁ a₁) (λ t₂ ts₂ a₂ e₂.
    lie_record levels file whole.end 0x30 span_of (λ us. SignerLies whole (more t₁ (more t₂ us))) (algorithm_in file) _ _ ts₂ (rest_at levels file _ _ t₂ ts₂ a₂)
    (λ t₃ ts₃ a₃ e₃. lie_check _ _ _ refl) (λ t₃ ts₃ a₃.
    lie_record levels file whole.end 0xa0 entries_for (λ us. SignerLies whole (more t₁ (more t₂ (more t₃ us)))) (entries_in (list_of attribute_entry) file) _ _ ts₃ (rest_at levels file _ _ t₃ ts₃ a₃)
    (λ t₄ ts₄ a₄ e₄. lie_list_entries attribute_entry (is 0x30) attribute levels file (each_attribute (levels - 1) file) _ _ t₄ ts₄ a₄ 0xa0 e₄ field_zero)
    (λ t₄ ts₄ a₄.
    lie_field levels file whole.end 0x30 (λ us. SignerLies whole (more t₁ (more t₂ (more t₃ (more t₄ us))))) _ _ ts₄ (rest_at levels file _ _ t₄ ts₄ a₄) (λ t₅ ts₅ a₅ e₅.
    lie_field levels file whole.end 4 (λ us. SignerLies whole (more t₁ (more t₂ (more t₃ (more t₄ (more t₅ us)))))) _ _ ts₅ (rest_at levels file _ _ t₅ ts₅ a₅) (λ t₆ ts₆ a₆ e₆.
    lie_maybe levels file whole.end 0xa1 entries_for (SignerLies whole (more t₁ (more t₂ (more t₃ (more t₄ (more t₅ (more t₆ ts₆))))))) (entries_in (some_of attribute_entry) file) entries_stop _ _ ts₆ (rest_at levels file _ _ t₆ ts₆ a₆)
    (entries_stop_lem (some_of attribute_entry) file)
    (λ t₇ ts₇ a₇ e₇. lie_some_entries attribute_entry (is 0x30) attribute levels file (each_attribute (levels - 1) file) _ _ t₇ ts₇ a₇ 0xa1 e₇ field_one)
    (λ unsigned ts₇ q _ _.
    lie_check _ _ _ (with_unsigned _ _ _ _ _ _ _ _ _ q)))))))))

-- the attribute and the signer that stand first
pub attribute_of_lies : (levels : ℕ) (file : List ℕ) (at end : ℕ) (ts : Forest) → At levels file at end ts → Gives (λ a. a ≡ attribute_at (nth 0 (placed_from at ts))) (attribute_of file at end)
attribute_of_lies levels file at end ts a =
    lie_field levels file end 0x30 (λ us x. x ≡ attribute_at (nth 0 (placed_from at us))) (attribute_in file) at ts a (λ t₁ ts₁ a₁ e₁.
    attribute_lies (levels - 1) file (located at t₁) (parts_of t₁) (inside_at levels file at end t₁ ts₁ a₁ 0x30 e₁ seq))

pub signer_of_lies : (levels : ℕ) (file : List ℕ) (at end : ℕ) (ts : Forest) → At levels file at end ts → Gives (λ s. s ≡ signer_at (nth 0 (placed_from at ts))) (signer_of file at end)
signer_of_lies levels file at end ts a =
    lie_field levels file end 0x30 (λ us x. x ≡ signer_at (nth 0 (placed_from at us))) (signer_in file) at ts a (λ t₁ ts₁ a₁ e₁.
    signer_lies (levels - 1) file (located at t₁) (parts_of t₁) (inside_at levels file at end t₁ ts₁ a₁ 0x30 e₁ seq))

-- as many signers as stand in their field
pub signers_lie : (count : SignerCount) (levels : ℕ) (file : List ℕ) (end at : ℕ) (ts : Forest) → At levels file at end ts →
    Gives (λ n. n ≡ length (placed_from at ts)) (signers_in count file at end)
signers_lie AtLeastOne levels file end at ts a = lie_some levels file end signer_entry (is 0x30) signer (each_signer levels file end) at ts a
signers_lie ExactlyOne levels file end at ts a =
    subst (Gives (λ n. n ≡ length (placed_from at ts)))
    (sym (then_then (expect_of 0x30 file at end >>= signer_in file) (λ s. Ok s.whole) (λ e. finish_of e.end end >>= (λ _. Ok 1))))
    (lie_record levels file end 0x30 signer_at (λ us n. n ≡ length (placed_from at us)) (signer_in file) _ at ts a
    (λ t₁ ts₁ a₁ e₁. signer_lies (levels - 1) file (located at t₁) (parts_of t₁) (inside_at levels file at end t₁ ts₁ a₁ 0x30 e₁ seq))
    (λ t₁ ts₁ a₁. lie_finish levels file end (λ us n. n ≡ suc (length (placed_from (at + head_size t₁ + body_size t₁) us))) _ _ ts₁ (rest_at levels file at end t₁ ts₁ a₁) (gives_ok _ _ refl)))
signers_lie Nobody levels file end at ts a = lie_finish levels file end (λ us n. n ≡ length (placed_from at us)) _ at ts a (gives_ok _ _ refl)

-- the content
by_octets : (b : Bool) (plain : Content) (segmented : Entries → Content) (r : Result Entries ℕ) (entries : Entries) → (b ≡ false → Gives (λ y. y ≡ entries) r) →
    Gives (λ c. c ≡ cond b plain (segmented entries)) (cond b (Ok plain) (r >>= (λ y. Ok (segmented y))))
by_octets true plain segmented r entries g = gives_ok _ _ refl
by_octets false plain segmented r entries g = lie_then _ _ _ _ (g refl) (λ y q. gives_ok _ _ (ap segmented q))

octets_lie : (levels : ℕ) (file : List ℕ) (field : Span) (at end : ℕ) (t : Tree) (ts : Forest) → At levels file at end (more t ts) → octet_tags (tag_of t) ≡ true →
    Gives (λ c. c ≡ content_from field (record { at = at; tree = t })) (octets_in file field (located at t))
octets_lie levels file field at end t ts a e =
    by_octets (eqb (tag_of t) 4) (Plain field (located at t)) (λ y. Segmented field y) _ (entries_for (record { at = at; tree = t }))
    (λ b. lie_list_entries (expect_of 4) (is 4) free levels file (λ stop. each_allowed (levels - 1) file stop (is 4)) at end t ts a
    0x24 (eqb-true (tag_of t) 0x24 (or_other _ _ e b)) segments)

abbrev ContentLies : Span → Forest → Content → Type 0
ContentLies field ts c = c ≡ content_from field (nth 0 (placed_from field.body ts))

content_lies : (levels : ℕ) (file : List ℕ) (field : Span) (ts : Forest) → At levels file field.body field.end ts → Gives (ContentLies field ts) (content_in file field)
content_lies levels file field ts a =
    lie_allowed levels file field.end octet_tags (ContentLies field) _ _ ts a (λ t₁ ts₁ a₁ e₁.
    lie_then _ _ _ _ (octets_lie levels file field _ _ t₁ ts₁ a₁ e₁) (λ c q. lie_check _ _ _ q))

abbrev InfoLies : Span → Forest → ContentInfo → Type 0
InfoLies whole ts info = info ≡ info_from whole (placed_from whole.body ts)

-- one octet string, which is the first element
abbrev PlainLies : ℕ → Forest → Span → Type 0
PlainLies p ts o = (o ≡ span_of (nth 0 (placed_from p ts))) × (is 4 (tag_of (nth 0 (placed_from p ts)).tree) ≡ true)

plain_lies : (levels : ℕ) (file : List ℕ) (field : Span) (ts : Forest) → At levels file field.body field.end ts → Gives (PlainLies field.body ts) (plain_in file field)
plain_lies levels file field ts a =
    lie_allowed levels file field.end (is 4) (PlainLies field.body) _ _ ts a (λ t₁ ts₁ a₁ e₁. lie_check _ _ _ (refl, e₁))

pub info_lies : (form : ContentForm) (levels : ℕ) (file : List ℕ) (whole : Span) (ts : Forest) → At levels file whole.body whole.end ts → Gives (InfoLies whole ts) (info_in form file whole)
info_lies Any levels file whole ts a =
    lie_field levels file whole.end 6 (InfoLies whole) _ _ ts a (λ t₁ ts₁ a₁ e₁.
    lie_optional levels file whole.end 0xa0 content_at (InfoLies whole (more t₁ ts₁)) (content_in file) (finished (located _ t₁)) _ ts₁ (rest_at levels file _ _ t₁ ts₁ a₁)
    (λ t₂ ts₂ a₂ e₂. content_lies (levels - 1) file (located _ t₂) (parts_of t₂) (inside_at levels file _ _ t₂ ts₂ a₂ 0xa0 e₂ field_zero))
    (λ o c ts₂ _ w. lie_check _ _ _ (with_content _ _ _ _ (ap or_detached w.read))))
  where
    finished : Span → Option Span → Option Content → Result ContentInfo ℕ
    finished kind o found = finish_of (behind span_stop kind.end o) whole.end >>= (λ _. Ok (record { whole = whole; kind = kind; content = or_detached found }))
info_lies TimeStampInfo levels file whole ts a =
    lie_named levels file whole.end time_stamp_info_id (InfoLies whole) _ _ ts a (λ t₁ ts₁ a₁.
    lie_field levels file whole.end 0xa0 (λ us. InfoLies whole (more t₁ us)) _ _ ts₁ (rest_at levels file _ _ t₁ ts₁ a₁) (λ t₂ ts₂ a₂ e₂.
    lie_then (PlainLies _ (parts_of t₂)) _ _ _
    (plain_lies (levels - 1) file (located _ t₂) (parts_of t₂) (inside_at levels file _ _ t₂ ts₂ a₂ 0xa0 e₂ field_zero))
    (λ o q. lie_check _ _ _ (with_content _ _ _ _
    (content_is (record { at = _; tree = t₂ }) o (placed_from (whole.body + head_size t₁ + body_size t₁ + head_size t₂ + body_size t₂) ts₂) e₂ q.0 q.1)))))
  where
    content_is : (x : Placed) (o : Span) (xs : List Placed) → tag_of x.tree ≡ 0xa0 → o ≡ span_of (nth 0 (inside_of x)) → is 4 (tag_of (nth 0 (inside_of x)).tree) ≡ true →
        Plain (span_of x) o ≡ or_detached (mapped content_at (if_first 0xa0 (x ∷ xs)))
    content_is x o xs e q b =
        ap {B = Content} (λ s. Plain (span_of x) s) q ∙ sym (cond-true (is 4 (tag_of (nth 0 (inside_of x)).tree)) _ _ b)
        ∙ ap (λ (y : Option Placed). or_detached (mapped content_at y)) (sym (cond-true (is 0xa0 (tag_of x.tree)) (Some x) None (eq-eqb (tag_of x.tree) 0xa0 e)))

-- signed data, with what stands behind its content
abbrev data_with : Span → Span → Span → ContentInfo → Option Entries → Option Entries → Entries → Message
data_with whole version digests info certificates revocations signers = record {
  whole = whole;
  version = version;
  digests = digests;
  info = info;
  certificates = certificates;
  revocations = revocations;
  signers = signers;
}

with_lists : (whole version digests : Span) (info : ContentInfo) (c c' r r' : Option Entries) (s s' : Entries) → c ≡ c' → r ≡ r' → s ≡ s' →
    data_with whole version digests info c r s ≡ data_with whole version digests info c' r' s'
with_lists whole version digests info c c' r r' s s' p q w i = data_with whole version digests info (p i) (q i) (w i)

abbrev DataLies : Span → Forest → Message → Type 0
DataLies whole ts m = m ≡ data_from whole (placed_from whole.body ts)

-- the signers, behind what may stand before them
signers_behind : (settings : Settings) (levels : ℕ) (file : List ℕ) (whole version digests : Span) (info : ContentInfo) (certificates revocations : Option Entries) (at : ℕ) (ts : Forest) →
    At levels file at whole.end ts →
    Gives (λ m. m ≡ data_with whole version digests info certificates revocations (entries_for (nth 0 (placed_from at ts))))
    (expect_of 0x31 file at whole.end >>= (λ field. entries_in (signers_in settings.signers) file field >>= (λ signers.
    finish_of field.end whole.end >>= (λ _. Ok (data_with whole version digests info certificates revocations signers)))))
signers_behind settings levels file whole version digests info certificates revocations at ts a =
    lie_field levels file whole.end 0x31 (λ us m. m ≡ data_with whole version digests info certificates revocations (entries_for (nth 0 (placed_from at us)))) _ at ts a (λ t₁ ts₁ a₁ e₁.
    lie_then (λ y. y ≡ entries_for (record { at = at; tree = t₁ })) _ _ _
    (lie_entries (signers_in settings.signers) file (record { at = at; tree = t₁ }) (signers_lie settings.signers (levels - 1) file _ _ _ (inside_at levels file _ _ t₁ ts₁ a₁ 0x31 e₁ set)))
    (λ signers q. lie_check _ _ _ (with_lists whole version digests info certificates certificates revocations revocations _ _ refl refl q)))

pub data_lies : (settings : Settings) (levels : ℕ) (file : List ℕ) (whole : Span) (ts : Forest) → At levels file whole.body whole.end ts → Gives (DataLies whole ts) (data_in settings file whole)
data_lies settings levels file whole ts a =
    lie_number levels file whole.end (DataLies whole) _ _ ts a (λ t₁ ts₁ a₁ v.
    lie_step _ _ _ (λ _.
    lie_field levels file whole.end 0x31 (λ us. DataLies whole (more t₁ us)) _ _ ts₁ (rest_at levels file _ _ t₁ ts₁ a₁) (λ t₂ ts₂ a₂ e₂.
    lie_record levels file whole.end 0x30 info_at (λ us. DataLies whole (more t₁ (more t₂ us))) (info_in settings.content file) _ _ ts₂ (rest_at levels file _ _ t₂ ts₂ a₂)
    (λ t₃ ts₃ a₃ e₃. info_lies settings.content (levels - 1) file (located _ t₃) (parts_of t₃) (inside_at levels file _ _ t₃ ts₃ a₃ 0x30 e₃ seq))
    (λ t₃ ts₃ a₃.
    lie_maybe levels file whole.end 0xa0 entries_for (DataLies whole (more t₁ (more t₂ (more t₃ ts₃)))) (entries_in (list_of (allowed_of certificate_tags)) file) entries_stop _ _ ts₃ (rest_at levels file _ _ t₃ ts₃ a₃)
    (entries_stop_lem (list_of (allowed_of certificate_tags)) file)
    (λ t₄ ts₄ a₄ e₄. lie_list_entries (allowed_of certificate_tags) certificate_tags free levels file (λ stop. each_allowed (levels - 1) file stop certificate_tags) _ _ t₄ ts₄ a₄ 0xa0 e₄ field_zero)
    (λ certs ts₄ q₄ r₄ a₄.
    lie_maybe levels file whole.end 0xa1 entries_for (DataLies whole (more t₁ (more t₂ (more t₃ ts₃)))) (entries_in (list_of (allowed_of revocation_tags)) file) entries_stop _ _ ts₄ a₄
    (entries_stop_lem (list_of (allowed_of revocation_tags)) file)
    (λ t₅ ts₅ a₅ e₅. lie_list_entries (allowed_of revocation_tags) revocation_tags free levels file (λ stop. each_allowed (levels - 1) file stop revocation_tags) _ _ t₅ ts₅ a₅ 0xa1 e₅ field_one)
    (λ revs ts₅ q₅ r₅ a₅.
    gives_weaker _ _ _ (λ m q. q ∙ with_lists _ _ _ _ _ _ _ _ _ _ q₄ (q₅ ∙ ap (λ (xs : List Placed). mapped entries_for (if_first 0xa1 xs)) (sym r₄))
    (ap (λ (xs : List Placed). entries_for (nth 0 xs)) (sym r₅ ∙ ap (past 0xa1) (sym r₄))))
    (signers_behind settings levels file whole (located _ t₁) (located _ t₂) (info_at (record { at = _; tree = t₃ })) certs revs _ ts₅ a₅)))))))

-- the message around its signed data
abbrev SignedDataLies : Span → Forest → Message → Type 0
SignedDataLies field ts m = m ≡ data_at (nth 0 (placed_from field.body ts))

signed_data_lies : (settings : Settings) (levels : ℕ) (file : List ℕ) (field : Span) (ts : Forest) → At levels file field.body field.end ts → Gives (SignedDataLies field ts) (signed_data_in settings file field)
signed_data_lies settings levels file field ts a =
    lie_field levels file field.end 0x30 (SignedDataLies field) _ _ ts a (λ t₁ ts₁ a₁ e₁.
    lie_then (DataLies (located _ t₁) (parts_of t₁)) _ _ _ (data_lies settings (levels - 1) file (located _ t₁) (parts_of t₁) (inside_at levels file _ _ t₁ ts₁ a₁ 0x30 e₁ seq))
    (λ m q. lie_check _ _ _ q))

abbrev MessageLies : Span → Forest → Message → Type 0
MessageLies whole ts m = m ≡ data_at (nth 0 (inside_of (nth 1 (placed_from whole.body ts))))

fields_lie : (settings : Settings) (levels : ℕ) (file : List ℕ) (whole : Span) (ts : Forest) → At levels file whole.body whole.end ts → Gives (MessageLies whole ts) (message_in settings file whole)
fields_lie settings levels file whole ts a =
    lie_named levels file whole.end signed_data_id (MessageLies whole) _ _ ts a (λ t₁ ts₁ a₁.
    lie_field levels file whole.end 0xa0 (λ us. MessageLies whole (more t₁ us)) _ _ ts₁ (rest_at levels file _ _ t₁ ts₁ a₁) (λ t₂ ts₂ a₂ e₂.
    lie_then (SignedDataLies (located _ t₂) (parts_of t₂)) _ _ _ (signed_data_lies settings (levels - 1) file (located _ t₂) (parts_of t₂) (inside_at levels file _ _ t₂ ts₂ a₂ 0xa0 e₂ field_zero))
    (λ m q. lie_check _ _ _ q)))

-- a message that is read lies where its tree says
pub message_lies : (settings : Settings) (file : List ℕ) (at end : ℕ) (t : Tree) (surplus : List ℕ) (levels : ℕ) → Valid t levels → end ≤ length file → encode t ++ surplus ≡ part file at end →
    Gives (λ m. m ≡ message_at at t) (message_of settings file at end)
message_lies settings file at end t surplus levels v room e =
    subst (λ (r : Result Span ℕ). Gives (λ m. m ≡ message_at at t) ((r >>= tagged at (is 0x30)) >>= rest)) (sym (front_read levels file at end t surplus v room e))
    (by_cond (is 0x30 (tag_of t)) (λ m. m ≡ message_at at t) (located at t) at rest (λ b.
    lie_then (MessageLies (located at t) (parts_of t)) _ _ _
    (fields_lie settings (levels - 1) file (located at t) (parts_of t) (inside_at levels file at _ t none (front_at levels file at end t surplus v room e) 0x30 (eqb-true (tag_of t) 0x30 b) seq))
    (λ m q. lie_check _ _ _ q)))
  where
    rest : Span → Result Message ℕ
    rest whole = message_in settings file whole >>= (λ m. finish_of whole.end end >>= (λ _. Ok m))
