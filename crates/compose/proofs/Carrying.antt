-- The composed attribute carries the stamp, and may stand in a file.
use Rattle.std.proofs.Common.{◌≡◌, ℕ, ◌-◌, ◌<◌, ◌≤◌, List, [], ◌∷◌, length, Some, None, Option, refl, subst, arith}
use Rattle.std.specs.List.{AllByRecursion}
use Rattle.std.proofs.lemmas.List.{length-append}
use Rattle.der.specs.Trees.{Tree, leaf, node, Forest, none, more, length_bytes, encode, encodes, OneByteTag, Constructed, Valid, Valids}
use Rattle.fields.proofs.Tags.{seq, set, field_zero, field_one}
use Rattle.cms.specs.Identifiers.{signed_data_id}
use Rattle.model.specs.Parts.{row_of, row, maybe, attribute_tree, Signer, six_fields, signer_tree, unsigned_tree}
use Rattle.model.specs.Files.{File, content_info_tree, certificates_tree, revocations_tree, signers_tree, signed_data_tree, file_tree}
use Rattle.model.specs.Shapes.{SignerShape, Shape}
use Rattle.rules.specs.Kinds.{kind_bytes}
use Rattle.rules.specs.declared.kinds.AttributeKind.TheVariants.{ArchiveStamp}
use Rattle.message.proofs.SignerParts.{before, six_trees}
use Rattle.limits.specs.Laws.{Keeps, SignerKeeps}
use Rattle.limits.proofs.Keeping.{none_too_many}
use Rattle.stamp_model.specs.Indexes.{Index, index_tree}
use Rattle.stamp_model.specs.Tokens.{token_settings}
use Rattle.stamp_model.specs.Stamps.{index_kind, carrying}
use Rattle.stamp_model.proofs.Telling.{signers_valid}
use Rattle.compose.specs.Composed.{signer_with, token_with, stamp_attribute}
use Rattle.compose.specs.Laws.{ComposedCarries, ComposedValid}

-- what is known of the only signer of a list
only : (P : Signer → Type 0) (ss : List Signer) (s : Signer) → ss ≡ s ∷ [] → AllByRecursion P ss → P s
only P ss s e a = (subst (λ (y : List Signer). AllByRecursion P y) e a).0

signer_shape : (s : Signer) (x : Index) → SignerShape s → SignerShape (signer_with x s)
signer_shape s x k = record { signed = k.signed; unsigned = record { each = (omega arith, tt); least = omega arith } }

token_shape : (f : File) (s : Signer) (x : Index) → f.signers ≡ s ∷ [] → Shape token_settings f → Shape token_settings (token_with f (signer_with x s))
token_shape f s x e k = record {
  version = k.version;
  content = k.content;
  certificates = k.certificates;
  revocations = k.revocations;
  signers = (signer_shape s x (only SignerShape f.signers s e k.signers), tt);
  count = refl;
}

token_keeps : (f : File) (s : Signer) (x : Index) → f.signers ≡ s ∷ [] → Keeps f → Keeps (token_with f (signer_with x s))
token_keeps f s x e k = record {
  certificates = k.certificates;
  revocations = k.revocations;
  signers = omega arith;
  each = (record { signed = (only SignerKeeps f.signers s e k.each).signed; unsigned = omega arith }, tt);
}

pub composed_carries : ComposedCarries
composed_carries f s i x t k n = record {
  token = record {
    shape = token_shape f s x t.signer t.shape;
    limits = (none_too_many (token_with f (signer_with x s))).1 (token_keeps f s x t.signer ((none_too_many f).0 t.limits));
    signer = refl;
    content = t.content;
    levels = t.levels;
  };
  value = refl;
  unsigned = refl;
  index = k;
}

-- an element is longer than its contents, and its contents than each part
shorter : (tag : ℕ) (parts : Forest) → length (encodes parts) ≤ length (encode (node tag parts))
shorter tag parts = omega (arith, length-append (length_bytes (length (encodes parts))) (encodes parts))

first_shorter : (t : Tree) (ts : Forest) → length (encode t) ≤ length (encodes (more t ts))
first_shorter t ts = omega (arith, length-append (encode t) (encodes ts))

rest_shorter : (t : Tree) (ts : Forest) → length (encodes ts) ≤ length (encodes (more t ts))
rest_shorter t ts = omega (arith, length-append (encode t) (encodes ts))

before_shorter : (ts : List Tree) (rest : Forest) → length (encodes rest) ≤ length (encodes (before ts rest))
before_shorter [] rest = omega arith
before_shorter (t ∷ ts) rest = omega (arith, before_shorter ts rest, rest_shorter t (before ts rest))

-- an element that is not too long, made of valid parts
made : (tag : ℕ) (parts : Forest) (levels : ℕ) → 0 < levels → OneByteTag tag → Constructed tag → length (encodes parts) ≤ 65535 → Valids parts (levels - 1) → Valid (node tag parts) levels
made tag parts levels l low k short v = (l, record { low = low; short = short }, k, v)

maybe_shorter : {M : Type 0} (tree : M → Tree) (o : Option M) (rest : Forest) → length (encodes rest) ≤ length (encodes (maybe tree o rest))
maybe_shorter tree None rest = omega arith
maybe_shorter tree (Some m) rest = rest_shorter (tree m) rest

-- a field that may be there, before other elements
maybe_valid : {M : Type 0} (tree : M → Tree) (o : Option M) (rest rest' : Forest) (levels : ℕ) → Valids (maybe tree o rest) levels → Valids rest' levels → Valids (maybe tree o rest') levels
maybe_valid tree None rest rest' levels v w = w
maybe_valid tree (Some m) rest rest' levels v w = (v.0, w)

behind_maybe : {M : Type 0} (tree : M → Tree) (o : Option M) (rest : Forest) (levels : ℕ) → Valids (maybe tree o rest) levels → Valids rest levels
behind_maybe tree None rest levels v = v
behind_maybe tree (Some m) rest levels v = v.1

low_30 : OneByteTag 0x30
low_30 e = let z : ◌≡◌ {A = ℕ} 16 31 = e in omega arith

low_31 : OneByteTag 0x31
low_31 e = let z : ◌≡◌ {A = ℕ} 17 31 = e in omega arith

low_a0 : OneByteTag 0xa0
low_a0 e = let z : ◌≡◌ {A = ℕ} 0 31 = e in omega arith

low_a1 : OneByteTag 0xa1
low_a1 e = let z : ◌≡◌ {A = ℕ} 1 31 = e in omega arith

low_6 : OneByteTag 6
low_6 e = let z : ◌≡◌ {A = ℕ} 6 31 = e in omega arith

module _ (x : Index) (v : Valid (index_tree x) 16) where
  carrier_valid : length (encode (attribute_tree (carrying x))) ≤ 65535 → Valid (attribute_tree (carrying x)) 18
  carrier_valid l =
      let l₁ = shorter 0x30 (more (leaf 6 index_kind) (more (node 0x31 (row (index_tree x ∷ []))) none)) in
      let l₂ = rest_shorter (leaf 6 index_kind) (more (node 0x31 (row (index_tree x ∷ []))) none) in
      let l₃ = first_shorter (node 0x31 (row (index_tree x ∷ []))) none in
      let l₄ = shorter 0x31 (row (index_tree x ∷ [])) in
      made 0x30 (more (leaf 6 index_kind) (more (node 0x31 (row (index_tree x ∷ []))) none)) 18 (omega arith) low_30 seq (omega arith)
      ((omega arith, record { low = low_6; short = omega arith }, refl), (made 0x31 (row (index_tree x ∷ [])) 17 (omega arith) low_31 set (omega arith) (v, tt), tt))

  unsigned_valid : length (encode (unsigned_tree (carrying x ∷ []))) ≤ 65535 → Valid (unsigned_tree (carrying x ∷ [])) 19
  unsigned_valid l =
      let l₁ = shorter 0xa1 (row_of attribute_tree (carrying x ∷ [])) in
      let l₂ = first_shorter (attribute_tree (carrying x)) none in
      made 0xa1 (row_of attribute_tree (carrying x ∷ [])) 19 (omega arith) low_a1 field_one (omega arith) (carrier_valid (omega arith), tt)

module _ (f : File) (s : Signer) (x : Index) (e : f.signers ≡ s ∷ []) (v : Valid (file_tree f) 24) (w : Valid (index_tree x) 16) where
  abbrev token : File
  token = token_with f (signer_with x s)

  -- the six fields are as they were
  six_valid : Valids (six_fields s (maybe unsigned_tree s.unsigned none)) 19
  six_valid = (subst (λ (ss : List Signer). Valids (row_of signer_tree ss) 20) e (signers_valid f 24 v)).0.3

  six_shorter : (rest : Forest) → length (encodes rest) ≤ length (encodes (six_fields s rest))
  six_shorter rest = before_shorter (six_trees s) rest

  signer_valid : length (encode (signer_tree (signer_with x s))) ≤ 65535 → Valid (signer_tree (signer_with x s)) 20
  signer_valid l =
      let u : Forest = more (unsigned_tree (carrying x ∷ [])) none in
      let l₁ = shorter 0x30 (six_fields s u) in
      let l₂ = six_shorter u in
      let l₃ = first_shorter (unsigned_tree (carrying x ∷ [])) none in
      let g = six_valid in
      made 0x30 (six_fields s u) 20 (omega arith) low_30 seq (omega arith)
      (g.0, (g.1.0, (g.1.1.0, (g.1.1.1.0, (g.1.1.1.1.0, (g.1.1.1.1.1.0, (unsigned_valid x w (omega arith), tt)))))))

  signers_valid' : length (encode (signers_tree token)) ≤ 65535 → Valid (signers_tree token) 21
  signers_valid' l =
      let l₁ = shorter 0x31 (more (signer_tree (signer_with x s)) none) in
      let l₂ = first_shorter (signer_tree (signer_with x s)) none in
      made 0x31 (more (signer_tree (signer_with x s)) none) 21 (omega arith) low_31 set (omega arith) (signer_valid (omega arith), tt)

  abbrev lists : Forest
  lists = maybe certificates_tree f.certificates (maybe revocations_tree f.revocations (more (signers_tree token) none))

  data_valid : length (encode (signed_data_tree token)) ≤ 65535 → Valid (signed_data_tree token) 22
  data_valid l =
      let fields = v.3.1.0.3.0.3 in
      let l₁ = shorter 0x30 (more (leaf 2 (f.version ∷ [])) (more (node 0x31 f.digests) (more (content_info_tree f) lists))) in
      let l₂ = rest_shorter (leaf 2 (f.version ∷ [])) (more (node 0x31 f.digests) (more (content_info_tree f) lists)) in
      let l₃ = rest_shorter (node 0x31 f.digests) (more (content_info_tree f) lists) in
      let l₄ = rest_shorter (content_info_tree f) lists in
      let l₅ = maybe_shorter certificates_tree f.certificates (maybe revocations_tree f.revocations (more (signers_tree token) none)) in
      let l₆ = maybe_shorter revocations_tree f.revocations (more (signers_tree token) none) in
      let l₇ = first_shorter (signers_tree token) none in
      let rs = behind_maybe certificates_tree f.certificates (maybe revocations_tree f.revocations (more (signers_tree f) none)) 21 fields.1.1.1 in
      made 0x30 (more (leaf 2 (f.version ∷ [])) (more (node 0x31 f.digests) (more (content_info_tree f) lists))) 22 (omega arith) low_30 seq (omega arith) (
        fields.0,
        (
          fields.1.0,
          (
            fields.1.1.0,
            maybe_valid certificates_tree f.certificates _ (maybe revocations_tree f.revocations (more (signers_tree token) none)) 21 fields.1.1.1
                (maybe_valid revocations_tree f.revocations _ (more (signers_tree token) none) 21 rs (signers_valid' (omega arith), tt)),
          ),
        ),
      )

  field_valid : length (encode (node 0xa0 (more (signed_data_tree token) none))) ≤ 65535 → Valid (node 0xa0 (more (signed_data_tree token) none)) 23
  field_valid l =
      let l₁ = shorter 0xa0 (more (signed_data_tree token) none) in
      let l₂ = first_shorter (signed_data_tree token) none in
      made 0xa0 (more (signed_data_tree token) none) 23 (omega arith) low_a0 field_zero (omega arith) (data_valid (omega arith), tt)

  token_valid : length (encode (file_tree token)) ≤ 65535 → Valid (file_tree token) 24
  token_valid l =
      let l₁ = shorter 0x30 (more (leaf 6 signed_data_id) (more (node 0xa0 (more (signed_data_tree token) none)) none)) in
      let l₂ = rest_shorter (leaf 6 signed_data_id) (more (node 0xa0 (more (signed_data_tree token) none)) none) in
      let l₃ = first_shorter (node 0xa0 (more (signed_data_tree token) none)) none in
      made 0x30 (more (leaf 6 signed_data_id) (more (node 0xa0 (more (signed_data_tree token) none)) none)) 24 (omega arith) low_30 seq (omega arith) (v.3.0, (field_valid (omega arith), tt))

  stamp_valid : length (encode (attribute_tree (stamp_attribute f s x))) ≤ 65535 → Valid (attribute_tree (stamp_attribute f s x)) 26
  stamp_valid l =
      let parts : Forest = more (node 0x31 (row (file_tree token ∷ []))) none in
      let l₁ = shorter 0x30 (more (leaf 6 (kind_bytes ArchiveStamp)) parts) in
      let l₂ = rest_shorter (leaf 6 (kind_bytes ArchiveStamp)) parts in
      let l₃ = first_shorter (node 0x31 (row (file_tree token ∷ []))) none in
      let l₄ = shorter 0x31 (row (file_tree token ∷ [])) in
      let l₅ = first_shorter (file_tree token) none in
      made 0x30 (more (leaf 6 (kind_bytes ArchiveStamp)) parts) 26 (omega arith) low_30 seq (omega arith)
      ((omega arith, record { low = low_6; short = omega arith }, refl), (made 0x31 (row (file_tree token ∷ [])) 25 (omega arith) low_31 set (omega arith) (token_valid (omega arith), tt), tt))

pub composed_valid : ComposedValid
composed_valid f s x v e w l = stamp_valid f s x e v w l
