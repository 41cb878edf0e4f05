-- A file of the shape has no break.
use Rattle.std.proofs.Common.{◌≡◌, ℕ, ◌+◌, ◌<◌, Bool, true, cond, List, [], ◌∷◌, length, Some, None, Option, refl, ap, ◌∙◌, arith}
use Rattle.std.specs.List.{AllByRecursion}
use Rattle.std.specs.Str.{bytes_eq}
use Rattle.std.proofs.lemmas.Slice.Eq.{bytes_eq-Decides}
use Rattle.der.specs.Trees.{Tree, leaf, node, Forest, none, more, Valid, tag_of}
use Rattle.fields.specs.Reads.{is}
use Rattle.cms.specs.Records.{certificate_tags, revocation_tags}
use Rattle.cms.specs.Identifiers.{time_stamp_info_id}
use Rattle.cms.specs.declared.settings.SignerCount.{SignerCount}
use Rattle.cms.specs.declared.settings.SignerCount.TheVariants.{AtLeastOne, ExactlyOne, Nobody}
use Rattle.cms.specs.declared.settings.ContentForm.{ContentForm}
use Rattle.cms.specs.declared.settings.ContentForm.TheVariants.{Any, TimeStampInfo}
use Rattle.cms.specs.declared.settings.Settings.{Settings}
use Rattle.fields.specs.Rules.{parts_of, head_size, body_size, or_else, Tags, Rule, nothing, free, field, optional, list, some, follow}
use Rattle.cms.specs.Grammar.{any, attribute, unsigned_attributes, signer, signers_by, revocations, certificates, content, content_info, data_fields, by_data_version, first_break}
use Rattle.model.specs.Parts.{row_of, row, maybe, Attribute, attribute_tree, Identifier, issuer, key, Signer, unsigned_tree, signer_tree, Content, detached, plain, segmented, segment_tree, content_parts}
use Rattle.model.specs.Files.{File, certificates_tree, revocations_tree, file_tree}
use Rattle.model.specs.Shapes.{AttributeShape, UnsignedShape, SignerShape, SignersShape, IfThere, AllowedTags, ContentShape, data_version, Shape}

both : (a b : Option ℕ) → a ≡ None → b ≡ None → or_else a b ≡ None
both a b p q = ap (λ (x : Option ℕ). or_else x b) p ∙ q

taken : (b : Bool) (x : Option ℕ) (p : ℕ) → b ≡ true → x ≡ None → cond b x (Some p) ≡ None
taken b x p t e = ap (λ (c : Bool). cond c x (Some p)) t ∙ e

module _ {M : Type 0} (tree : M → Tree) (Keeps : M → Type 0) (tags : Tags) (inner : Rule)
    (tagged : (m : M) → Keeps m → tags (tag_of (tree m)) ≡ true) (kept : (q : ℕ) (m : M) → Keeps m → inner q (parts_of (tree m)) ≡ None) where
  list_row : (p : ℕ) (ms : List M) → AllByRecursion Keeps ms → list tags inner p (row_of tree ms) ≡ None
  list_row p [] a = refl
  list_row p (m ∷ ms) (k, a) = taken _ _ p (tagged m k) (both _ _ (kept (p + head_size (tree m)) m k) (list_row (p + head_size (tree m) + body_size (tree m)) ms a))

  some_row : (p : ℕ) (ms : List M) → AllByRecursion Keeps ms → 0 < length ms → some tags inner p (row_of tree ms) ≡ None
  some_row p [] a l = absurd (omega arith)
  some_row p (m ∷ ms) (k, a) l = taken _ _ p (tagged m k) (both _ _ (kept (p + head_size (tree m)) m k) (list_row (p + head_size (tree m) + body_size (tree m)) ms a))

any_values : (p : ℕ) (vs : List Tree) → list any free p (row vs) ≡ None
any_values p [] = refl
any_values p (v ∷ vs) = any_values (p + head_size v + body_size v) vs

some_values : (p : ℕ) (vs : List Tree) → 0 < length vs → some any free p (row vs) ≡ None
some_values p [] l = absurd (omega arith)
some_values p (v ∷ vs) l = any_values _ vs

pub attribute_kept : (q : ℕ) (a : Attribute) → AttributeShape a → attribute q (parts_of (attribute_tree a)) ≡ None
attribute_kept q a l = both _ _ (some_values _ a.values l) refl

pub attributes_kept : (p : ℕ) (ms : List Attribute) → AllByRecursion AttributeShape ms → list (is 0x30) attribute p (row_of attribute_tree ms) ≡ None
attributes_kept p ms a = list_row attribute_tree AttributeShape (is 0x30) attribute (λ m k. refl) attribute_kept p ms a

pub unsigned_kept : (p : ℕ) (u : Option (List Attribute)) → IfThere UnsignedShape u → unsigned_attributes p (maybe unsigned_tree u none) ≡ None
unsigned_kept p None k = refl
unsigned_kept p (Some ms) k = both _ _ (some_row attribute_tree AttributeShape (is 0x30) attribute (λ m k. refl) attribute_kept _ ms k.each k.least) refl

pub signer_kept : (q : ℕ) (s : Signer) → SignerShape s → signer q (parts_of (signer_tree s)) ≡ None
signer_kept q s k = by s.identifier
  where
    by : (i : Identifier) → signer q (parts_of (signer_tree (record { identifier = i; digest = s.digest; signed = s.signed; algorithm = s.algorithm; signature = s.signature; unsigned = s.unsigned }))) ≡ None
    by (issuer parts) = both _ _ (attributes_kept _ s.signed k.signed) (unsigned_kept _ s.unsigned k.unsigned)
    by (key bytes) = both _ _ (attributes_kept _ s.signed k.signed) (unsigned_kept _ s.unsigned k.unsigned)

signers_kept : (count : SignerCount) (p : ℕ) (ss : List Signer) → AllByRecursion SignerShape ss → SignersShape count ss → signers_by count p (row_of signer_tree ss) ≡ None
signers_kept AtLeastOne p ss a l = some_row signer_tree SignerShape (is 0x30) signer (λ m k. refl) signer_kept p ss a l
signers_kept ExactlyOne p [] a l = absurd (omega arith)
signers_kept ExactlyOne p (s ∷ []) a l = both _ _ (signer_kept _ s a.0) refl
signers_kept ExactlyOne p (s ∷ t ∷ ss) a l = absurd (omega arith)
signers_kept Nobody p [] a l = refl
signers_kept Nobody p (s ∷ ss) a l = absurd (let z : ◌≡◌ {A = ℕ} 0 1 = cc in omega arith)

segments_kept : (p : ℕ) (segments : List (List ℕ)) → list (is 4) free p (row_of segment_tree segments) ≡ None
segments_kept p [] = refl
segments_kept p (s ∷ ss) = segments_kept (p + head_size (segment_tree s) + body_size (segment_tree s)) ss

content_kept : (p : ℕ) (c : Content) → optional (is 0xa0) content nothing p (content_parts c) ≡ None
content_kept p detached = refl
content_kept p (plain bytes) = refl
content_kept p (segmented segments) = both _ _ (both _ _ (segments_kept _ segments) refl) refl

info_kept : (form : ContentForm) (p : ℕ) (content_type : List ℕ) (c : Content) → ContentShape form content_type c →
    content_info form p (more (leaf 6 content_type) (content_parts c)) ≡ None
info_kept Any p content_type c k = content_kept _ c
info_kept TimeStampInfo p content_type detached k = absurd k.1
info_kept TimeStampInfo p content_type (plain bytes) k =
    let s : bytes_eq content_type time_stamp_info_id ≡ true = (bytes_eq-Decides content_type time_stamp_info_id).1 k.0 in
    ap (λ (b : Bool). follow (cond b (Some (field (is 0xa0) (field (is 4) free nothing) nothing)) None) p (p + head_size (leaf 6 content_type) + body_size (leaf 6 content_type)) (content_parts (plain bytes))) s
info_kept TimeStampInfo p content_type (segmented segments) k = absurd k.1

allowed_kept : (tags : Tags) (p : ℕ) (es : List Tree) → AllowedTags tags es → list tags free p (row es) ≡ None
allowed_kept tags p es a = list_row (λ x. x) (λ x. tags (tag_of x) ≡ true) tags free (λ m k. k) (λ q m k. refl) p es a

-- from the revocations on, and from the certificates on
revocations_kept : (count : SignerCount) (p : ℕ) (rs : Option (List Tree)) (ss : List Signer) → IfThere (AllowedTags revocation_tags) rs → AllByRecursion SignerShape ss → SignersShape count ss →
    revocations count p (maybe revocations_tree rs (more (node 0x31 (row_of signer_tree ss)) none)) ≡ None
revocations_kept count p None ss k a l = both _ _ (signers_kept count _ ss a l) refl
revocations_kept count p (Some es) ss k a l = both _ _ (allowed_kept revocation_tags _ es k) (both _ _ (signers_kept count _ ss a l) refl)

certificates_kept : (count : SignerCount) (p : ℕ) (cs rs : Option (List Tree)) (ss : List Signer) → IfThere (AllowedTags certificate_tags) cs → IfThere (AllowedTags revocation_tags) rs →
    AllByRecursion SignerShape ss → SignersShape count ss →
    certificates count p (maybe certificates_tree cs (maybe revocations_tree rs (more (node 0x31 (row_of signer_tree ss)) none))) ≡ None
certificates_kept count p None None ss j k a l = revocations_kept count p None ss k a l
certificates_kept count p None (Some es) ss j k a l = revocations_kept count p (Some es) ss k a l
certificates_kept count p (Some cs) rs ss j k a l = both _ _ (allowed_kept certificate_tags _ cs j) (revocations_kept count _ rs ss k a l)

-- a version of signed data is one of those that the rule allows
data_version_kept : (settings : Settings) (v p q : ℕ) (rest : Forest) → data_version v ≡ true → data_fields settings q rest ≡ None → follow (by_data_version settings (v ∷ [])) p q rest ≡ None
data_version_kept settings v p q rest t e = ap (λ (b : Bool). follow (cond b (Some (data_fields settings)) None) p q rest) t ∙ e

pub file_has_no_break : (settings : Settings) (place levels : ℕ) (f : File) → Shape settings f → Valid (file_tree f) levels → first_break settings place (file_tree f) [] ≡ None
file_has_no_break settings place levels f k v =
    both _ _ (both _ _ (both _ _ (data_version_kept settings f.version _ _ _ k.version
    (both _ _ (info_kept settings.content _ f.content_type f.content k.content)
    (certificates_kept settings.signers _ f.certificates f.revocations f.signers k.certificates k.revocations k.signers k.count))) refl) refl) refl
