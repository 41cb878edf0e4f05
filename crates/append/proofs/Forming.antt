-- A file keeps its form where its lists grow by elements that may stand there.
use Rattle.std.proofs.Common.{◌≡◌, ℕ, zero, suc, ◌-◌, ◌<◌, ◌≤◌, Bool, true, List, [], ◌∷◌, ◌++◌, length, Some, None, Option, ap, arith, lit<}
use Rattle.std.proofs.ByRecursion.{All-append}
use Rattle.std.proofs.lemmas.List.{length-append}
use Rattle.std.specs.List.{AllByRecursion}
use Rattle.der.specs.Trees.{Tree, leaf, node, Forest, none, more, OneByteTag, Constructed, Valid, Valids, encode, encodes, header_bytes, tag_of}
use Rattle.fields.proofs.Tags.{field_zero, field_one}
use Rattle.cms.specs.Records.{certificate_tags, revocation_tags}
use Rattle.cms.specs.Identifiers.{signed_data_id}
use Rattle.cms.specs.declared.settings.SignerCount.{SignerCount}
use Rattle.cms.specs.declared.settings.SignerCount.TheVariants.{AtLeastOne, ExactlyOne, Nobody}
use Rattle.model.specs.Parts.{row, row_of, maybe, Attribute, attribute_tree, Signer, signer_tree, six_fields, unsigned_tree}
use Rattle.model.specs.Files.{File, certificates_tree, revocations_tree, content_info_tree, signers_tree, file_tree, file_bytes}
use Rattle.model.specs.Shapes.{IfThere, AttributeShape, AllowedTags, UnsignedShape, SignerShape, SignersShape}
use Rattle.append.specs.Appended.{given, signer_with, signers_with, with_certificates, with_revocations, with_attributes}
use Rattle.append.specs.Laws.{FormKept}
use Rattle.append.proofs.Filing.{low_zero, low_one}
use Rattle.append.proofs.Limiting.{same_count}

-- at most 65535 bytes
record Short (t : Tree) : Type 0 where
  most : length (encode t) ≤ 65535

record Shorts (ts : Forest) : Type 0 where
  most : length (encodes ts) ≤ 65535

short_first : {t : Tree} {ts : Forest} → Shorts (more t ts) → Short t
short_first {t} {ts} l = record { most = omega (arith, l.most, length-append (encode t) (encodes ts)) }

short_rest : {t : Tree} {ts : Forest} → Shorts (more t ts) → Shorts ts
short_rest {t} {ts} l = record { most = omega (arith, l.most, length-append (encode t) (encodes ts)) }

short_in : {tag : ℕ} {ts : Forest} → Short (node tag ts) → Shorts ts
short_in {tag} {ts} l = record { most = omega (arith, l.most, length-append (header_bytes tag (length (encodes ts))) (encodes ts)) }

-- an element with other parts is valid if they are and it is short
node_again : {tag : ℕ} (parts : Forest) {us : Forest} (levels : ℕ) → Valid (node tag parts) levels → Short (node tag us) → (Shorts us → Valids us (levels - 1)) → Valid (node tag us) levels
node_again parts levels v l k = (v.0, record { low = v.1.low; short = (short_in l).most }, v.2, k (short_in l))

row_append : {M : Type 0} (tree : M → Tree) (ms ns : List M) (levels : ℕ) → Valids (row_of tree ms) levels → Valids (row_of tree ns) levels → Valids (row_of tree (ms ++ ns)) levels
row_append tree [] ns levels v w = w
row_append tree (m ∷ ms) ns levels v w = (v.0, row_append tree ms ns levels v.1 w)

-- a field that may be there, and then is, with more in it
module _ {M : Type 0} (tree : M → Tree) (tag levels : ℕ) (rest : Forest) (new : List M) (low : OneByteTag tag) (built : Constructed tag) (some : 0 < levels) (w : Valids (row_of tree new) (levels - 1)) where
  field_longer : (o : Option (List M)) → Valids (maybe (λ ms. node tag (row_of tree ms)) o rest) levels → Short (node tag (row_of tree (given o ++ new))) →
      Valids (more (node tag (row_of tree (given o ++ new))) rest) levels
  field_longer None v l = ((some, record { low = low; short = (short_in l).most }, built, w), v)
  field_longer (Some ms) v l = (node_again (row_of tree ms) levels v.0 l (λ _. row_append tree ms new (levels - 1) v.0.3 w), v.1)

-- what follows a field that may be there
behind_maybe : {M : Type 0} (tree : M → Tree) (o : Option M) (ts us : Forest) (levels : ℕ) → Valids (maybe tree o ts) levels → Shorts (maybe tree o us) → (Valids ts levels → Shorts us → Valids us levels) →
    Valids (maybe tree o us) levels
behind_maybe tree None ts us levels v l k = k v l
behind_maybe tree (Some m) ts us levels v l k = (v.0, k v.1 (short_rest l))

-- the six fields of a signer, and others behind them
six_fields_lem : (s : Signer) (ts us : Forest) (levels : ℕ) → Valids (six_fields s ts) levels → Shorts (six_fields s us) → (Valids ts levels → Shorts us → Valids us levels) → Valids (six_fields s us) levels
six_fields_lem s ts us levels (a, (b, (c, (d, (e, (g, v)))))) l k =
    (a, (b, (c, (d, (e, (g, k v (short_rest (short_rest (short_rest (short_rest (short_rest (short_rest l))))))))))))

signer_longer : (s : Signer) (new : List Attribute) (levels : ℕ) → 1 < levels → Valid (signer_tree s) levels → Valids (row_of attribute_tree new) (levels - 1 - 1) →
    Short (signer_tree (signer_with new s)) → Valid (signer_tree (signer_with new s)) levels
signer_longer s new levels l v w k =
    node_again (six_fields s (maybe unsigned_tree s.unsigned none)) levels v k
    (λ k. six_fields_lem s (maybe unsigned_tree s.unsigned none) (more (unsigned_tree (given s.unsigned ++ new)) none) (levels - 1) v.3 k
    (λ v k. field_longer attribute_tree 0xa1 (levels - 1) none new low_one field_one (omega arith) w s.unsigned v (short_first k)))

signers_longer : (n : ℕ) (ss : List Signer) (new : List Attribute) (levels : ℕ) → 1 < levels → Valids (row_of signer_tree ss) levels → Valids (row_of attribute_tree new) (levels - 1 - 1) →
    Shorts (row_of signer_tree (signers_with n new ss)) → Valids (row_of signer_tree (signers_with n new ss)) levels
signers_longer n [] new levels l v w k = tt
signers_longer zero (s ∷ ss) new levels l v w k = (signer_longer s new levels l v.0 w (short_first k), v.1)
signers_longer (suc n) (s ∷ ss) new levels l v w k =
    (v.0, signers_longer n ss new levels l v.1 w (short_rest k))

-- the lists of a file: the fields behind the content info
abbrev lists_of : File → Forest
lists_of f = maybe certificates_tree f.certificates (maybe revocations_tree f.revocations (more (signers_tree f) none))

-- the fields of the signed data, with other lists
abbrev fields_over : File → Forest → Forest
fields_over f us = more (leaf 2 (f.version ∷ [])) (more (node 0x31 f.digests) (more (content_info_tree f) us))

abbrev data_over : File → Forest → Forest
data_over f us = more (node 0x30 (fields_over f us)) none

abbrev parts_over : File → Forest → Forest
parts_over f us = more (leaf 6 signed_data_id) (more (node 0xa0 (data_over f us)) none)

fields_over_lem : (f : File) (us : Forest) → Valids (fields_over f (lists_of f)) 29 → Shorts (fields_over f us) → (Valids (lists_of f) 29 → Shorts us → Valids us 29) → Valids (fields_over f us) 29
fields_over_lem f us (a, (b, (c, v))) l k = (a, (b, (c, k v (short_rest (short_rest (short_rest l))))))

data_over_lem : (f : File) (us : Forest) → Valids (data_over f (lists_of f)) 30 → Shorts (data_over f us) → (Valids (lists_of f) 29 → Shorts us → Valids us 29) → Valids (data_over f us) 30
data_over_lem f us v l k = (node_again (fields_over f (lists_of f)) 30 v.0 (short_first l) (λ l. fields_over_lem f us v.0.3 l k), tt)

parts_over_lem : (f : File) (us : Forest) → Valids (parts_over f (lists_of f)) 31 → Shorts (parts_over f us) → (Valids (lists_of f) 29 → Shorts us → Valids us 29) → Valids (parts_over f us) 31
parts_over_lem f us v l k = (v.0, (node_again (data_over f (lists_of f)) 31 v.1.0 (short_first (short_rest l)) (λ l. data_over_lem f us v.1.0.3 l k), tt))

file_over : (f : File) (us : Forest) → Valid (file_tree f) 32 → length (encode (node 0x30 (parts_over f us))) ≤ 65535 → (Valids (lists_of f) 29 → Shorts us → Valids us 29) → Valid (node 0x30 (parts_over f us)) 32
file_over f us v l k = node_again (parts_over f (lists_of f)) 32 v (record { most = l }) (λ l. parts_over_lem f us v.3 l k)

-- the shapes of lists that have grown
tags_longer : (tags : ℕ → Bool) (o : Option (List Tree)) (new : List Tree) → IfThere (AllowedTags tags) o → AllowedTags tags new → AllowedTags tags (given o ++ new)
tags_longer tags None new k l = l
tags_longer tags (Some ts) new k l = All-append (λ t. tags (tag_of t) ≡ true) ts new k l

unsigned_longer : (o : Option (List Attribute)) (new : List Attribute) → IfThere UnsignedShape o → AllByRecursion AttributeShape new → 0 < length new → UnsignedShape (given o ++ new)
unsigned_longer None new k l m = record { each = l; least = m }
unsigned_longer (Some ms) new k l m = record { each = All-append AttributeShape ms new k.each l; least = omega (arith, k.least, length-append ms new) }

signers_shape : (n : ℕ) (ss : List Signer) (new : List Attribute) → AllByRecursion SignerShape ss → AllByRecursion AttributeShape new → 0 < length new → AllByRecursion SignerShape (signers_with n new ss)
signers_shape n [] new k l m = tt
signers_shape zero (s ∷ ss) new (k, ks) l m = (record { signed = k.signed; unsigned = unsigned_longer s.unsigned new k.unsigned l m }, ks)
signers_shape (suc n) (s ∷ ss) new (k, ks) l m = (k, signers_shape n ss new ks l m)

count_kept : (count : SignerCount) (n : ℕ) (ss : List Signer) (new : List Attribute) → SignersShape count ss → SignersShape count (signers_with n new ss)
count_kept AtLeastOne n ss new k = omega (arith, same_count n new ss)
count_kept ExactlyOne n ss new k = omega (arith, same_count n new ss)
count_kept Nobody n ss new k = ap (signers_with n new) k

-- each law's file, and its validity
module _ (f : File) (v : Valid (file_tree f) 32) where
  certificates_valid : (new : List Tree) → Valids (row new) 28 → length (file_bytes (with_certificates new f)) ≤ 65535 → Valid (file_tree (with_certificates new f)) 32
  certificates_valid new w l =
      file_over f (lists_of (with_certificates new f)) v l
      (λ v s. field_longer (λ t. t) 0xa0 29 (maybe revocations_tree f.revocations (more (signers_tree f) none)) new low_zero field_zero (lit< tt) w f.certificates v (short_first s))

  revocations_valid : (new : List Tree) → Valids (row new) 28 → length (file_bytes (with_revocations new f)) ≤ 65535 → Valid (file_tree (with_revocations new f)) 32
  revocations_valid new w l =
      let us : Forest = more (revocations_tree (given f.revocations ++ new)) (more (signers_tree f) none) in
      file_over f (lists_of (with_revocations new f)) v l
      (λ v s. behind_maybe certificates_tree f.certificates (maybe revocations_tree f.revocations (more (signers_tree f) none)) us 29 v s
      (λ v s. field_longer (λ t. t) 0xa1 29 (more (signers_tree f) none) new low_one field_one (lit< tt) w f.revocations v (short_first s)))

  attributes_valid : (n : ℕ) (new : List Attribute) → Valids (row_of attribute_tree new) 26 → length (file_bytes (with_attributes n new f)) ≤ 65535 → Valid (file_tree (with_attributes n new f)) 32
  attributes_valid n new w l =
      let us : Forest = more (signers_tree (with_attributes n new f)) none in
      file_over f (lists_of (with_attributes n new f)) v l
      (λ v s. behind_maybe certificates_tree f.certificates (maybe revocations_tree f.revocations (more (signers_tree f) none)) (maybe revocations_tree f.revocations us) 29 v s
      (λ v s. behind_maybe revocations_tree f.revocations (more (signers_tree f) none) us 29 v s
      (λ v s. (node_again (row_of signer_tree f.signers) 29 v.0 (short_first s) (λ s. signers_longer n f.signers new 28 (lit< tt) v.0.3 w s), tt))))

pub form_kept : FormKept
form_kept = record {
  certificates = λ settings f new k tags w l.
      record {
        shape = record {
          version = k.shape.version;
          content = k.shape.content;
          certificates = tags_longer certificate_tags f.certificates new k.shape.certificates tags;
          revocations = k.shape.revocations;
          signers = k.shape.signers;
          count = k.shape.count;
        };
        valid = certificates_valid f k.valid new w l;
      };
  revocations = λ settings f new k tags w l.
      record {
        shape = record {
          version = k.shape.version;
          content = k.shape.content;
          certificates = k.shape.certificates;
          revocations = tags_longer revocation_tags f.revocations new k.shape.revocations tags;
          signers = k.shape.signers;
          count = k.shape.count;
        };
        valid = revocations_valid f k.valid new w l;
      };
  attributes = λ settings f n new k each some w l.
      record {
        shape = record {
          version = k.shape.version;
          content = k.shape.content;
          certificates = k.shape.certificates;
          revocations = k.shape.revocations;
          signers = signers_shape n f.signers new k.shape.signers each some;
          count = count_kept settings.signers n f.signers new k.shape.count;
        };
        valid = attributes_valid f k.valid n new w l;
      };
}
