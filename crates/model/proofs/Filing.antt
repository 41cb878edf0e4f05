-- Messages in which no break is found are files.
use Rattle.std.proofs.Common.{◌≡◌, ℕ, ◌+◌, ◌-◌, Bool, true, false, cond, ◌||◌, eqb, ◌⊎◌, List, [], ◌∷◌, Some, None, Option, sym, refl, ap, ◌∙◌, subst, inl, inr, arith}
use lib.Bits.{bit_and}
use Rattle.std.proofs.lemmas.Slice.Eq.{bytes_eq-Decides}
use Rattle.std.specs.List.{AllByRecursion}
use Rattle.std.specs.Str.{bytes_eq}
use Rattle.der.specs.Trees.{Tree, leaf, node, Forest, none, more, Valid, Valids, tag_of}
use Rattle.fields.specs.Reads.{is}
use Rattle.cms.specs.Records.{certificate_tags, revocation_tags, octet_tags}
use Rattle.cms.specs.Identifiers.{signed_data_id, time_stamp_info_id}
use Rattle.cms.specs.declared.settings.SignerCount.{SignerCount}
use Rattle.cms.specs.declared.settings.SignerCount.TheVariants.{AtLeastOne, ExactlyOne, Nobody}
use Rattle.cms.specs.declared.settings.ContentForm.{ContentForm}
use Rattle.cms.specs.declared.settings.ContentForm.TheVariants.{Any, TimeStampInfo}
use Rattle.cms.specs.declared.settings.Settings.{Settings}
use Rattle.fields.specs.Rules.{parts_of, head_size, Tags, Rule, nothing, free, field, optional, list, follow, one}
use Rattle.cms.specs.Grammar.{signer, signers_by, signers, revocations, certificates, content, by_content_type, content_info, data_fields, by_data_version, signed_data, message_fields, by_identifier, message, first_break}
use Rattle.model.specs.Parts.{row_of, row, maybe, Signer, signer_tree, Content, detached, plain, segmented, segment_tree, content_parts}
use Rattle.model.specs.Files.{File, certificates_tree, revocations_tree, signed_data_tree, file_tree}
use Rattle.model.specs.Shapes.{SignerShape, SignersShape, IfThere, AllowedTags, ContentShape, data_version, Shape}
use Rattle.model.proofs.Unbroken.{some_not_none, cond_none, or_none, First, field_none, nothing_none, node_of, leaf_of, entries, some_entries, NodeFirst, node_first, node_maybe, leaf_first, LeafFirst, LeafChosen, leaf_chosen}
use Rattle.model.proofs.Signing.{bit_30, bit_31, bit_a0, bit_a1, one_is, signer_of_lem}

either_true : (a b : Bool) → (a || b) ≡ true → (a ≡ true) ⊎ (b ≡ true)
either_true true b e = inl refl
either_true false b e = inr e

-- an identifier that decides what follows is the one expected
named_by : (identifier : List ℕ) (next : Rule) (body : List ℕ) (at after : ℕ) (rest : Forest) →
    follow (cond (bytes_eq body identifier) (Some next) None) at after rest ≡ None → (body ≡ identifier) × (next after rest ≡ None)
named_by identifier next body at after rest e = by (bytes_eq body identifier) refl e
  where
    by : (b : Bool) → bytes_eq body identifier ≡ b → follow (cond b (Some next) None) at after rest ≡ None → (body ≡ identifier) × (next after rest ≡ None)
    by true q e = ((bytes_eq-Decides body identifier).0 q, e)
    by false q e = absurd (some_not_none at e)

-- segments are octet strings
segment_of : (levels q : ℕ) (t : Tree) → Valid t levels → is 4 (tag_of t) ≡ true → free q (parts_of t) ≡ None →
    (bytes : List ℕ) × Unit {0} × (t ≡ segment_tree bytes)
segment_of levels q t v g e = let l = leaf_of 4 levels t refl v g in (l.0, tt, l.1)

-- content: plain or segmented
content_of_lem : (levels p : ℕ) (ts : Forest) → Valids ts levels → content p ts ≡ None → (c : Content) × (more (node 0xa0 ts) none ≡ content_parts c)
content_of_lem levels p ts v e =
    let f = field_none octet_tags (list (is 4) free) nothing p ts e in
    let w : Valids (more f.tree f.rest) levels = subst (λ (x : Forest). Valids x levels) f.whole v in
    by f w.0 (either_true (eqb (tag_of f.tree) 4) (eqb (tag_of f.tree) 0x24) f.tagged)
  where
    by : (f : First octet_tags (list (is 4) free) nothing p ts) → Valid f.tree levels → (eqb (tag_of f.tree) 4 ≡ true) ⊎ (eqb (tag_of f.tree) 0x24 ≡ true) →
        (c : Content) × (more (node 0xa0 ts) none ≡ content_parts c)
    by f w (inl g) =
        let l = leaf_of 4 levels f.tree refl w g in
        let a₁ = f.whole in
        let a₂ = l.1 in
        let a₃ : f.rest ≡ none = nothing_none _ f.rest f.behind in
        (plain l.0, cc)
    by f w (inr g) =
        let n = node_of 0x24 levels f.tree (λ z. omega arith) w g in
        let ms = entries segment_tree (λ _. Unit {0}) (is 4) free (levels - 1) (segment_of (levels - 1)) (p + head_size f.tree) n.0 n.2
        (ap (λ (x : Tree). list (is 4) free (p + head_size f.tree) (parts_of x)) (sym n.1) ∙ f.inside) in
        let a₁ = f.whole in
        let a₂ = n.1 in
        let a₃ = ms.2 in
        let a₄ : f.rest ≡ none = nothing_none _ f.rest f.behind in
        (segmented ms.0, cc)

-- a content info, by the setting
pub record Info (form : ContentForm) (ts : Forest) : Type 0 where
  pub content_type : List ℕ
  pub content : Content
  pub whole : ts ≡ more (leaf 6 content_type) (content_parts content)
  pub shape : ContentShape form content_type content

info_of_lem : (form : ContentForm) (levels p : ℕ) (ts : Forest) → Valids ts levels → content_info form p ts ≡ None → Info form ts
info_of_lem Any levels p ts v e =
    let f = leaf_first 6 free (optional (is 0xa0) content nothing) p levels ts v refl e in
    let c = by f (node_maybe 0xa0 content nothing f.after levels f.rest f.valids bit_a0 f.behind) in
    let a₁ = f.whole in
    let a₂ = c.1 in
    record { content_type = f.body; content = c.0; whole = cc; shape = tt }
  where
    by : (f : LeafFirst 6 (optional (is 0xa0) content nothing) levels ts) → (nothing f.after f.rest ≡ None) ⊎ NodeFirst 0xa0 content nothing levels f.rest → (c : Content) × (f.rest ≡ content_parts c)
    by f (inl q) = (detached, nothing_none f.after f.rest q)
    by f (inr g) =
        let c = content_of_lem (levels - 1) g.at g.parts g.valid g.inside in
        let a₁ = g.whole in
        let a₂ : g.rest ≡ none = nothing_none g.after g.rest g.behind in
        let a₃ = c.1 in
        (c.0, cc)
info_of_lem TimeStampInfo levels p ts v e =
    let c = leaf_chosen 6 by_content_type p levels ts v refl e in
    by c (named_by time_stamp_info_id (field (is 0xa0) (field (is 4) free nothing) nothing) c.body c.at c.after c.rest c.behind)
  where
    by : (c : LeafChosen 6 by_content_type levels ts) → (c.body ≡ time_stamp_info_id) × (field (is 0xa0) (field (is 4) free nothing) nothing c.after c.rest ≡ None) → Info TimeStampInfo ts
    by c (b, r) =
        let f = node_first 0xa0 (field (is 4) free nothing) nothing c.after levels c.rest c.valids bit_a0 r in
        let l = leaf_first 4 free nothing f.at (levels - 1) f.parts f.valid refl f.inside in
        let a₁ = c.whole in
        let a₂ = f.whole in
        let a₃ = l.whole in
        let a₄ : l.rest ≡ none = nothing_none l.after l.rest l.behind in
        let a₅ : f.rest ≡ none = nothing_none f.after f.rest f.behind in
        record { content_type = c.body; content = plain l.body; whole = cc; shape = (b, tt) }

-- elements with allowed tags
allowed_of_lem : (tags : Tags) (levels q : ℕ) (t : Tree) → Valid t levels → tags (tag_of t) ≡ true → free q (parts_of t) ≡ None →
    (m : Tree) × (tags (tag_of m) ≡ true) × (t ≡ m)
allowed_of_lem tags levels q t v g e = (t, g, refl)

-- a list of elements in a field that may be there
pub record ListMaybe (tag : ℕ) (tags : Tags) (next : Rule) (levels : ℕ) (ts : Forest) : Type 0 where
  pub entries : Option (List Tree)
  pub rest : Forest
  pub allowed : IfThere (AllowedTags tags) entries
  pub whole : ts ≡ maybe (λ es. node tag (row es)) entries rest
  pub after : ℕ
  pub behind : next after rest ≡ None
  pub valids : Valids rest levels

list_maybe : (tag : ℕ) (tags : Tags) (next : Rule) (levels p : ℕ) (ts : Forest) → Valids ts levels → (bit_and tag 32 ≡ 0 → ⊥) →
    optional (is tag) (list tags free) next p ts ≡ None → ListMaybe tag tags next levels ts
list_maybe tag tags next levels p ts v c e = by (node_maybe tag (list tags free) next p levels ts v c e)
  where
    by : (next p ts ≡ None) ⊎ NodeFirst tag (list tags free) next levels ts → ListMaybe tag tags next levels ts
    by (inl q) = record { entries = None; rest = ts; allowed = tt; whole = refl; after = p; behind = q; valids = v }
    by (inr f) =
        let ms = entries (λ t. t) (λ t. tags (tag_of t) ≡ true) tags free (levels - 1) (allowed_of_lem tags (levels - 1)) f.at f.parts f.valid f.inside in
        record {
          entries = Some ms.0;
          rest = f.rest;
          allowed = ms.1;
          whole = f.whole ∙ ap (λ (x : Forest). more (node tag x) f.rest) ms.2;
          after = f.after;
          behind = f.behind;
          valids = f.valids;
        }

-- signers, as many as the setting wants
signers_of_lem : (count : SignerCount) (levels p : ℕ) (ts : Forest) → Valids ts levels → signers_by count p ts ≡ None →
    (ss : List Signer) × AllByRecursion SignerShape ss × SignersShape count ss × (ts ≡ row_of signer_tree ss)
signers_of_lem AtLeastOne levels p ts v e = some_entries signer_tree SignerShape (is 0x30) signer levels (signer_of_lem levels) p ts v e
signers_of_lem ExactlyOne levels p ts v e =
    let f = field_none (is 0x30) signer nothing p ts e in
    let w : Valids (more f.tree f.rest) levels = subst (λ (x : Forest). Valids x levels) f.whole v in
    let s = signer_of_lem levels (p + head_size f.tree) f.tree w.0 f.tagged f.inside in
    let a₁ = f.whole in
    let a₂ = s.2 in
    let a₃ : f.rest ≡ none = nothing_none _ f.rest f.behind in
    (s.0 ∷ [], (s.1, tt), refl, cc)
signers_of_lem Nobody levels p ts v e = ([], tt, refl, nothing_none p ts e)

-- the fields of signed data, put together
assembled : (v : ℕ) (ts r₁ r₂ r₃ r₄ r₅ digests info parts : Forest) (content_type : List ℕ) (c : Content) (cs rs : Option (List Tree)) (ss : List Signer) →
    ts ≡ more (node 0x31 digests) r₁ → r₁ ≡ more (node 0x30 info) r₂ → info ≡ more (leaf 6 content_type) (content_parts c) →
    r₂ ≡ maybe certificates_tree cs r₃ → r₃ ≡ maybe revocations_tree rs r₄ → r₄ ≡ more (node 0x31 parts) r₅ → parts ≡ row_of signer_tree ss → r₅ ≡ none →
    node 0x30 (more (leaf 2 (v ∷ [])) ts) ≡ signed_data_tree (record {
      version = v;
      digests = digests;
      content_type = content_type;
      content = c;
      certificates = cs;
      revocations = rs;
      signers = ss;
    })
assembled v ts r₁ r₂ r₃ r₄ r₅ digests info parts content_type c cs rs ss a₁ a₂ a₃ a₄ a₅ a₆ a₇ a₈ = cc

-- the contents of signed data, behind the version
pub record Fields (settings : Settings) (ts : Forest) : Type 0 where
  pub file : ℕ → File
  pub shape : (v : ℕ) → data_version v ≡ true → Shape settings (file v)
  pub whole : (v : ℕ) → node 0x30 (more (leaf 2 (v ∷ [])) ts) ≡ signed_data_tree (file v)

fields_of : (settings : Settings) (levels p : ℕ) (ts : Forest) → Valids ts levels → data_fields settings p ts ≡ None → Fields settings ts
fields_of settings levels p ts v e =
    let f₁ = node_first 0x31 free (field (is 0x30) (content_info settings.content) (certificates settings.signers)) p levels ts v bit_31 e in
    let f₂ = node_first 0x30 (content_info settings.content) (certificates settings.signers) f₁.after levels f₁.rest f₁.valids bit_30 f₁.behind in
    let i = info_of_lem settings.content (levels - 1) f₂.at f₂.parts f₂.valid f₂.inside in
    let c = list_maybe 0xa0 certificate_tags (revocations settings.signers) levels f₂.after f₂.rest f₂.valids bit_a0 f₂.behind in
    let r = list_maybe 0xa1 revocation_tags (signers settings.signers) levels c.after c.rest c.valids bit_a1 c.behind in
    let f₃ = node_first 0x31 (signers_by settings.signers) nothing r.after levels r.rest r.valids bit_31 r.behind in
    let ss = signers_of_lem settings.signers (levels - 1) f₃.at f₃.parts f₃.valid f₃.inside in
    record {
      file = λ v. record {
        version = v;
        digests = f₁.parts;
        content_type = i.content_type;
        content = i.content;
        certificates = c.entries;
        revocations = r.entries;
        signers = ss.0;
      };
      shape = λ v q. record {
        version = q;
        content = i.shape;
        certificates = c.allowed;
        revocations = r.allowed;
        signers = ss.1;
        count = ss.2;
      };
      whole = λ v. assembled v ts f₁.rest f₂.rest c.rest r.rest f₃.rest f₁.parts f₂.parts f₃.parts i.content_type i.content c.entries r.entries ss.0
          f₁.whole f₂.whole i.whole c.whole r.whole f₃.whole ss.3 (nothing_none f₃.after f₃.rest f₃.behind);
    }

-- a version of signed data
data_version_of : (settings : Settings) (body : List ℕ) (at after : ℕ) (rest : Forest) → follow (by_data_version settings body) at after rest ≡ None →
    (v : ℕ) × (body ≡ v ∷ []) × (data_version v ≡ true) × (data_fields settings after rest ≡ None)
data_version_of settings body at after rest e =
    by (one 1 body || (one 3 body || (one 4 body || one 5 body))) refl e
  where
    pick : (one 1 body || (one 3 body || (one 4 body || one 5 body))) ≡ true → (v : ℕ) × (body ≡ v ∷ []) × (data_version v ≡ true)
    pick q = first (either_true (one 1 body) _ q)
      where
        last : (one 4 body ≡ true) ⊎ (one 5 body ≡ true) → (v : ℕ) × (body ≡ v ∷ []) × (data_version v ≡ true)
        last (inl q) = (4, one_is 4 body q, refl)
        last (inr q) = (5, one_is 5 body q, refl)

        second : (one 3 body ≡ true) ⊎ ((one 4 body || one 5 body) ≡ true) → (v : ℕ) × (body ≡ v ∷ []) × (data_version v ≡ true)
        second (inl q) = (3, one_is 3 body q, refl)
        second (inr q) = last (either_true (one 4 body) (one 5 body) q)

        first : (one 1 body ≡ true) ⊎ ((one 3 body || (one 4 body || one 5 body)) ≡ true) → (v : ℕ) × (body ≡ v ∷ []) × (data_version v ≡ true)
        first (inl q) = (1, one_is 1 body q, refl)
        first (inr q) = second (either_true (one 3 body) _ q)

    by : (b : Bool) → (one 1 body || (one 3 body || (one 4 body || one 5 body))) ≡ b → follow (cond b (Some (data_fields settings)) None) at after rest ≡ None →
        (v : ℕ) × (body ≡ v ∷ []) × (data_version v ≡ true) × (data_fields settings after rest ≡ None)
    by true q e = let p = pick q in (p.0, p.1, p.2, e)
    by false q e = absurd (some_not_none at e)

-- the contents of the signed data
data_of : (settings : Settings) (levels p : ℕ) (parts : Forest) → Valids parts levels → signed_data settings p parts ≡ None →
    (f : File) × Shape settings f × (node 0x30 parts ≡ signed_data_tree f)
data_of settings levels p parts v e =
    let c = leaf_chosen 2 (by_data_version settings) p levels parts v refl e in
    let d = data_version_of settings c.body c.at c.after c.rest c.behind in
    let f = fields_of settings levels c.after c.rest c.valids d.3 in (
      f.file d.0,
      f.shape d.0 d.2,
      ap (λ (x : Forest). node 0x30 x) (c.whole ∙ ap (λ (x : List ℕ). more (leaf 2 x) c.rest) d.1) ∙ f.whole d.0,
    )

wrapped : (t : Tree) (parts r₁ r₂ inner r₃ data' : Forest) (body : List ℕ) (f : File) →
    t ≡ node 0x30 parts → parts ≡ more (leaf 6 body) r₁ → body ≡ signed_data_id → r₁ ≡ more (node 0xa0 inner) r₂ → r₂ ≡ none →
    inner ≡ more (node 0x30 data') r₃ → r₃ ≡ none → node 0x30 data' ≡ signed_data_tree f → t ≡ file_tree f
wrapped t parts r₁ r₂ inner r₃ data' body f a₁ a₂ a₃ a₄ a₅ a₆ a₇ a₈ = cc

pub no_break_is_file : (settings : Settings) (place levels : ℕ) (t : Tree) → Valid t levels → first_break settings place t [] ≡ None →
    (f : File) × Shape settings f × (t ≡ file_tree f)
no_break_is_file settings place levels t v e =
    let q = cond_none (is 0x30 (tag_of t)) _ place e in
    let n = node_of 0x30 levels t bit_30 v q.0 in
    let m : message settings (place + head_size t) n.0 ≡ None =
    ap (λ (x : Tree). message settings (place + head_size t) (parts_of x)) (sym n.1) ∙ (or_none _ _ q.1).0 in
    let c = leaf_chosen 6 (by_identifier settings) (place + head_size t) (levels - 1) n.0 n.2 refl m in
    let i = named_by signed_data_id (message_fields settings) c.body c.at c.after c.rest c.behind in
    let f₁ = node_first 0xa0 (field (is 0x30) (signed_data settings) nothing) nothing c.after (levels - 1) c.rest c.valids bit_a0 i.1 in
    let f₂ = node_first 0x30 (signed_data settings) nothing f₁.at (levels - 1 - 1) f₁.parts f₁.valid bit_30 f₁.inside in
    let d = data_of settings (levels - 1 - 1 - 1) f₂.at f₂.parts f₂.valid f₂.inside in (
      d.0,
      d.1,
      wrapped t n.0 c.rest f₁.rest f₁.parts f₂.rest f₂.parts c.body d.0 n.1 c.whole i.0 f₁.whole
          (nothing_none f₁.after f₁.rest f₁.behind) f₂.whole (nothing_none f₂.after f₂.rest f₂.behind) d.2,
    )
