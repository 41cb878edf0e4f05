-- Attributes that stand in a file are read one by one.
use Rattle.std.proofs.Common.{◌≡◌, ℕ, ◌+◌, ◌-◌, ◌≤◌, Bool, not, List, [], ◌∷◌, ◌++◌, length, drop, Some, None, Ok, Err, Option, Result, sym, refl, ap, ◌∙◌, arith}
use Rattle.std.specs.List.{AllByRecursion}
use Rattle.std.proofs.lemmas.List.{append_assoc, take-append-drop}
use Rattle.der.proofs.Parts.{part_front, part_rest}
use Rattle.model.specs.Shapes.{AttributeShape}
use Rattle.der.specs.declared.span.Span.{Span}
use Rattle.der.specs.Spans.{part, element_of}
use Rattle.der.specs.Trees.{Tree, leaf, node, none, more, Valids, encode, encodes}
use Rattle.std.specs.Str.{bytes_eq}
use Rattle.rules.specs.Attributes.{one_value, is_content_type}
use Rattle.cms.specs.declared.located.Attribute.{Attribute as Located}
use Rattle.fields.specs.Placed.{located, placed_from}
use Rattle.cms.specs.Places.{attribute_at}
use Rattle.fields.specs.Reads.{broke, placed, contents_at}
use Rattle.cms.specs.Records.{attribute_of}
use Rattle.fields.specs.Rules.{head_size, body_size, or_else}
use Rattle.fields.proofs.Steps.{ok_same}
use Rattle.fields.proofs.Standing.{At, first_read, first_bytes, none_at, rest_at, inside_at, first_body, none_left}
use Rattle.cms.proofs.SignerLinks.{link_attribute_of}
use Rattle.cms.proofs.RecordPlaces.{attribute_of_lies}
use Rattle.model.specs.Parts.{Attribute, attribute_tree, row_of, row}
use Rattle.model.proofs.Keeping.{attribute_kept}
use Rattle.rules.specs.Standing.{Row, Trees, There, single_at}

-- a reading that does not break off gives something
given_by : {X : Type 0} (r : Result X ℕ) → broke r ≡ None → (x : X) × (r ≡ Ok x)
given_by (Ok x) e = (x, refl)
given_by (Err p) e = absurd (let z : ◌≡◌ {A = ℕ} 0 1 = cc in omega arith)

length_placed : (p : ℕ) (ts : List Tree) → length (placed_from p (row ts)) ≡ length ts
length_placed p [] = refl
length_placed p (t ∷ ts) = let e = length_placed (p + head_size t + body_size t) ts in omega arith

module _ (levels : ℕ) (file : List ℕ) (at end : ℕ) where
  pub row_at : (ms : List Attribute) → Row levels file at end ms → At levels file at end (row_of attribute_tree ms)
  row_at ms r = record { valid = r.valid; bytes = r.bytes; order = r.order; inside = r.inside }

  pub row_none : Row levels file at end [] → at ≡ end
  row_none r = none_left levels file at end (row_at [] r)

  module _ (a : Attribute) (rest : List Attribute) (r : Row levels file at end (a ∷ rest)) where
    stands : At levels file at end (more (attribute_tree a) (row_of attribute_tree rest))
    stands = row_at (a ∷ rest) r

    -- where the first of them lies
    pub here : Located
    here = attribute_at (record { at = at; tree = attribute_tree a })

    pub first_attribute : attribute_of file at end ≡ Ok (attribute_at (record { at = at; tree = attribute_tree a }))
    first_attribute =
        let e : broke (attribute_of file at end) ≡ None =
        link_attribute_of levels file at end (more (attribute_tree a) (row_of attribute_tree rest)) stands
        ∙ ap (λ (o : Option ℕ). or_else o None) (attribute_kept (at + head_size (attribute_tree a)) a r.shape.0) in
        let x = given_by (attribute_of file at end) e in
        x.1 ∙ ap Ok ((attribute_of_lies levels file at end (more (attribute_tree a) (row_of attribute_tree rest)) stands).holds x.0 x.1)

    -- the others stand behind it
    pub others : Row levels file (at + head_size (attribute_tree a) + body_size (attribute_tree a)) end rest
    others =
        let b = rest_at levels file at end (attribute_tree a) (row_of attribute_tree rest) stands in
        record { valid = b.valid; shape = r.shape.1; bytes = b.bytes; order = b.order; inside = b.inside }

    -- its type and its values
    parts : At (levels - 1) file (at + head_size (attribute_tree a)) (at + head_size (attribute_tree a) + body_size (attribute_tree a))
        (more (leaf 6 a.kind) (more (node 0x31 (row a.values)) none))
    parts = inside_at levels file at end (attribute_tree a) (row_of attribute_tree rest) stands 0x30 refl (λ z. omega arith)

    pub kind_bytes_lem : contents_at file (attribute_at (record { at = at; tree = attribute_tree a })).kind ≡ a.kind
    kind_bytes_lem = first_body (levels - 1) file _ _ (leaf 6 a.kind) (more (node 0x31 (row a.values)) none) parts

    value_parts : At (levels - 1 - 1) file (attribute_at (record { at = at; tree = attribute_tree a })).values.field.body (attribute_at (record { at = at; tree = attribute_tree a })).values.field.end (row a.values)
    value_parts =
        inside_at (levels - 1) file _ _ (node 0x31 (row a.values)) none (rest_at (levels - 1) file _ _ (leaf 6 a.kind) (more (node 0x31 (row a.values)) none) parts) 0x31 refl (λ z. omega arith)

    -- it lies where the record says
    pub first_there : There (levels - 1 - 1) file (attribute_at (record { at = at; tree = attribute_tree a })) a
    first_there = record {
      kind = kind_bytes_lem;
      count = length_placed _ a.values;
      values = record { valid = value_parts.valid; bytes = value_parts.bytes; order = value_parts.order; inside = value_parts.inside };
    }

-- the one element that stands from `at` to `end`
pub single_here : (levels : ℕ) (file : List ℕ) (at end count : ℕ) (vs : List Tree) (s : Span) → Trees levels file at end (row vs) → count ≡ length vs → count ≡ 1 →
    element_of file at end ≡ Ok s → Some s ≡ single_at at vs
single_here levels file at end count [] s r n one e = absurd (omega arith)
single_here levels file at end count (v ∷ []) s r n one e =
    let a : At levels file at end (more v none) = record { valid = r.valid; bytes = r.bytes; order = r.order; inside = r.inside } in
    let q : ◌≡◌ {A = Result Span ℕ} (Ok s) (Ok (located at v)) = sym (ap (placed at) e) ∙ first_read levels file at end v none a in
    ap {B = Option Span} Some (ok_same q)
single_here levels file at end count (v ∷ u ∷ vs) s r n one e = absurd (omega arith)

-- the bytes of the one value are compared with those expected
pub value_compared : (levels : ℕ) (file : List ℕ) (at end : ℕ) (vs : List Tree) (s : Span) (expected : Tree) (whole name : List ℕ) (b : Bool) → Trees levels file at end (row vs) →
    Some s ≡ single_at at vs → whole ≡ part file s.start s.end → name ≡ encode expected → b ≡ bytes_eq whole name → not b ≡ not (one_value (is_content_type expected) vs)
value_compared levels file at end [] s expected whole name b r e w n t = absurd (let z : ◌≡◌ {A = ℕ} 0 1 = cc in omega arith)
value_compared levels file at end (v ∷ []) s expected whole name b r e w n t =
    let a : At levels file at end (more v none) = record { valid = r.valid; bytes = r.bytes; order = r.order; inside = r.inside } in
    let q : s ≡ located at v = cc in
    let x : whole ≡ encode v = w ∙ ap (λ (y : Span). part file y.start y.end) q ∙ first_bytes levels file at end v none a in
    ap not (t ∙ ap (λ (y : List ℕ). bytes_eq y name) x ∙ ap (bytes_eq (encode v)) n)
value_compared levels file at end (v ∷ u ∷ vs) s expected whole name b r e w n t = absurd (let z : ◌≡◌ {A = ℕ} 0 1 = cc in omega arith)

-- rows one behind the other
all_append : {M : Type 0} (P : M → Type 0) (xs ys : List M) → AllByRecursion P xs → AllByRecursion P ys → AllByRecursion P (xs ++ ys)
all_append P [] ys a b = b
all_append P (x ∷ xs) ys (p, a) b = (p, all_append P xs ys a b)

valids_append : (levels : ℕ) (xs ys : List Attribute) → Valids (row_of attribute_tree xs) levels → Valids (row_of attribute_tree ys) levels → Valids (row_of attribute_tree (xs ++ ys)) levels
valids_append levels [] ys a b = b
valids_append levels (x ∷ xs) ys (p, a) b = (p, valids_append levels xs ys a b)

encodes_append : (xs ys : List Attribute) → encodes (row_of attribute_tree (xs ++ ys)) ≡ encodes (row_of attribute_tree xs) ++ encodes (row_of attribute_tree ys)
encodes_append [] ys = refl
encodes_append (x ∷ xs) ys =
    ap (λ (z : List ℕ). encode (attribute_tree x) ++ z) (encodes_append xs ys)
    ∙ sym (append_assoc (encode (attribute_tree x)) (encodes (row_of attribute_tree xs)) (encodes (row_of attribute_tree ys)))

part_join : (file : List ℕ) (from mid to : ℕ) → from ≤ mid → mid ≤ to → part file from to ≡ part file from mid ++ part file mid to
part_join file from mid to l m =
    let n : from + (mid - from) ≡ mid = omega arith in
    sym (take-append-drop (mid - from) (part file from to))
    ∙ ap (λ (z : List ℕ). z ++ drop (mid - from) (part file from to)) (sym (part_front file from (mid - from) to (omega arith)) ∙ ap (part file from) n)
    ∙ ap (λ (z : List ℕ). part file from mid ++ z) (sym (part_rest file from (mid - from) to (omega arith)) ∙ ap (λ (k : ℕ). part file k to) n)

pub rows_join : (levels : ℕ) (file : List ℕ) (from mid to : ℕ) (xs ys : List Attribute) → Row levels file from mid xs → Row levels file mid to ys → Row levels file from to (xs ++ ys)
rows_join levels file from mid to xs ys r s =
    let o = r.order in
    let q = s.order in
    record {
      valid = valids_append levels xs ys r.valid s.valid;
      shape = all_append AttributeShape xs ys r.shape s.shape;
      bytes = part_join file from mid to r.order s.order ∙ ap (λ (z : List ℕ). z ++ part file mid to) r.bytes ∙ ap (λ (z : List ℕ). encodes (row_of attribute_tree xs) ++ z) s.bytes ∙ sym (encodes_append xs ys);
      order = omega arith;
      inside = s.inside;
    }

pub row_empty : (levels : ℕ) (file : List ℕ) (at : ℕ) → at ≤ length file → Row levels file at at []
row_empty levels file at l =
    let a = none_at levels file at at l refl in
    record { valid = tt; shape = tt; bytes = a.bytes; order = a.order; inside = a.inside }
