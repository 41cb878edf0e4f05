-- Attributes and signers in which no break is found.
use Rattle.std.proofs.Common.{◌≡◌, ℕ, ◌-◌, ◌<◌, Bool, true, false, cond, ◌⊎◌, List, [], ◌∷◌, length, Some, None, Option, sym, refl, ap, ◌∙◌, inl, inr, arith}
use lib.Bits.{bit_and}
use Rattle.std.proofs.lemmas.Bool.{eqb-true}
use Rattle.std.specs.List.{AllByRecursion}
use Rattle.der.specs.Trees.{Tree, leaf, node, Forest, none, more, Valid, Valids, tag_of}
use Rattle.fields.specs.Reads.{is}
use Rattle.fields.specs.Rules.{parts_of, nothing, free, field, list, some, follow, one}
use Rattle.cms.specs.Grammar.{any, attribute, unsigned_attributes, from_signature, from_signed, signer_fields, by_version, signer}
use Rattle.model.specs.Parts.{row_of, row, maybe, Attribute, attribute_tree, Identifier, issuer, key, version_tree, identifier_tree, Algorithm, algorithm_tree, Signer, signed_tree, unsigned_tree, signer_tree}
use Rattle.model.specs.Shapes.{AttributeShape, UnsignedShape, SignerShape, IfThere}
use Rattle.model.proofs.Unbroken.{some_not_none, field_none, nothing_none, node_of, entries, some_entries, elements_of_lem, NodeFirst, LeafFirst, LeafChosen, node_first, node_maybe, leaf_first, leaf_chosen}

-- these tags have the bit of constructed elements, and those have not
pub bit_30 : bit_and 0x30 32 ≡ 0 → ⊥
bit_30 e = omega arith

pub bit_31 : bit_and 0x31 32 ≡ 0 → ⊥
bit_31 e = omega arith

pub bit_a0 : bit_and 0xa0 32 ≡ 0 → ⊥
bit_a0 e = omega arith

pub bit_a1 : bit_and 0xa1 32 ≡ 0 → ⊥
bit_a1 e = omega arith

-- at least one value
values_of : (p levels : ℕ) (ts : Forest) → some any free p ts ≡ None → (vs : List Tree) × (0 < length vs) × (ts ≡ row vs)
values_of p levels ts e =
    let f = field_none any free (list any free) p ts e in
    let xs = elements_of_lem f.rest in
    (f.tree ∷ xs.0, omega arith, f.whole ∙ ap (λ (x : Forest). more f.tree x) xs.1)

pub attribute_of_lem : (levels q : ℕ) (t : Tree) → Valid t levels → is 0x30 (tag_of t) ≡ true → attribute q (parts_of t) ≡ None →
    (a : Attribute) × AttributeShape a × (t ≡ attribute_tree a)
attribute_of_lem levels q t v g e =
    let n = node_of 0x30 levels t bit_30 v g in
    let parts = n.0 in
    let whole = n.1 in
    let f₁ : LeafFirst 6 (field (is 0x31) (some any free) nothing) (levels - 1) parts =
    leaf_first 6 free (field (is 0x31) (some any free) nothing) q (levels - 1) parts n.2 refl (ap (λ (x : Tree). attribute q (parts_of x)) (sym whole) ∙ e) in
    let f₂ : NodeFirst 0x31 (some any free) nothing (levels - 1) f₁.rest =
    node_first 0x31 (some any free) nothing f₁.after (levels - 1) f₁.rest f₁.valids bit_31 f₁.behind in
    let vs = values_of f₂.at levels f₂.parts f₂.inside in
    let a₁ = f₁.whole in
    let a₂ = f₂.whole in
    let a₃ : f₂.rest ≡ none = nothing_none f₂.after f₂.rest f₂.behind in
    let a₄ = vs.2 in
    (record { kind = f₁.body; values = vs.0 }, vs.1, cc)

attributes_of : (levels p : ℕ) (ts : Forest) → Valids ts levels → list (is 0x30) attribute p ts ≡ None →
    (ms : List Attribute) × AllByRecursion AttributeShape ms × (ts ≡ row_of attribute_tree ms)
attributes_of levels p ts v e = entries attribute_tree AttributeShape (is 0x30) attribute levels (attribute_of_lem levels) p ts v e

-- unsigned attributes, or none
unsigned_of_lem : (levels p : ℕ) (ts : Forest) → Valids ts levels → unsigned_attributes p ts ≡ None →
    (u : Option (List Attribute)) × IfThere UnsignedShape u × (ts ≡ maybe unsigned_tree u none)
unsigned_of_lem levels p ts v e = by (node_maybe 0xa1 (some (is 0x30) attribute) nothing p levels ts v bit_a1 e)
  where
    by : (nothing p ts ≡ None) ⊎ NodeFirst 0xa1 (some (is 0x30) attribute) nothing levels ts → (u : Option (List Attribute)) × IfThere UnsignedShape u × (ts ≡ maybe unsigned_tree u none)
    by (inl q) = (None, tt, nothing_none p ts q)
    by (inr f) =
        let ms = some_entries attribute_tree AttributeShape (is 0x30) attribute (levels - 1) (attribute_of_lem (levels - 1)) f.at f.parts f.valid f.inside in
        let a₁ = f.whole in
        let a₂ = ms.3 in
        let a₃ : f.rest ≡ none = nothing_none f.after f.rest f.behind in
        (Some ms.0, record { each = ms.1; least = ms.2 }, cc)

-- the fields of a signer behind its identifier
pub record Fields (ts : Forest) : Type 0 where
  pub digest : Algorithm
  pub signed : List Attribute
  pub algorithm : Forest
  pub signature : List ℕ
  pub unsigned : Option (List Attribute)
  pub each : AllByRecursion AttributeShape signed
  pub least : IfThere UnsignedShape unsigned
  pub whole : ts ≡ more (algorithm_tree digest) (more (signed_tree signed) (more (node 0x30 algorithm) (more (leaf 4 signature) (maybe unsigned_tree unsigned none))))

fields_of : (levels p : ℕ) (ts : Forest) → Valids ts levels → field (is 0x30) (field (is 6) free free) from_signed p ts ≡ None → Fields ts
fields_of levels p ts v e =
    let f₁ = node_first 0x30 (field (is 6) free free) from_signed p levels ts v bit_30 e in
    let g = leaf_first 6 free free f₁.at (levels - 1) f₁.parts f₁.valid refl f₁.inside in
    let f₂ = node_first 0xa0 (list (is 0x30) attribute) from_signature f₁.after levels f₁.rest f₁.valids bit_a0 f₁.behind in
    let ms = attributes_of (levels - 1) f₂.at f₂.parts f₂.valid f₂.inside in
    let f₃ = node_first 0x30 free (field (is 4) free unsigned_attributes) f₂.after levels f₂.rest f₂.valids bit_30 f₂.behind in
    let f₄ = leaf_first 4 free unsigned_attributes f₃.after levels f₃.rest f₃.valids refl f₃.behind in
    let u = unsigned_of_lem levels f₄.after f₄.rest f₄.valids f₄.behind in
    let a₁ = f₁.whole in
    let a₂ = g.whole in
    let a₃ = f₂.whole in
    let a₄ = ms.2 in
    let a₅ = f₃.whole in
    let a₆ = f₄.whole in
    let a₇ = u.2 in
    record {
      digest = record { name = g.body; parameters = g.rest };
      signed = ms.0;
      algorithm = f₃.parts;
      signature = f₄.body;
      unsigned = u.0;
      each = ms.1;
      least = u.1;
      whole = cc;
    }

pub one_is : (v : ℕ) (body : List ℕ) → one v body ≡ true → body ≡ v ∷ []
one_is v [] e = absurd (let z : ◌≡◌ {A = ℕ} 0 1 = cc in omega arith)
one_is v (x ∷ []) e = ap {B = List ℕ} (λ y. y ∷ []) (eqb-true x v e)
one_is v (x ∷ y ∷ ys) e = absurd (let z : ◌≡◌ {A = ℕ} 0 1 = cc in omega arith)

version_of_lem : (body : List ℕ) (at after : ℕ) (rest : Forest) → follow (by_version body) at after rest ≡ None →
    ((body ≡ 1 ∷ []) × (signer_fields 0x30 after rest ≡ None)) ⊎ ((body ≡ 3 ∷ []) × (signer_fields 0x80 after rest ≡ None))
version_of_lem body at after rest e = first (one 1 body) (one 3 body) refl refl e
  where
    first : (b c : Bool) → one 1 body ≡ b → one 3 body ≡ c → follow (cond b (Some (signer_fields 0x30)) (cond c (Some (signer_fields 0x80)) None)) at after rest ≡ None →
        ((body ≡ 1 ∷ []) × (signer_fields 0x30 after rest ≡ None)) ⊎ ((body ≡ 3 ∷ []) × (signer_fields 0x80 after rest ≡ None))
    first true c q r e = inl (one_is 1 body q, e)
    first false true q r e = inr (one_is 3 body r, e)
    first false false q r e = absurd (some_not_none at e)

-- a signer, once its identifier is known
signer_with_lem : (t : Tree) (i : Identifier) (ts : Forest) → Fields ts → t ≡ node 0x30 (more (version_tree i) (more (identifier_tree i) ts)) →
    (s : Signer) × SignerShape s × (t ≡ signer_tree s)
signer_with_lem t i ts f e =
    let w = f.whole in (
      record { identifier = i; digest = f.digest; signed = f.signed; algorithm = f.algorithm; signature = f.signature; unsigned = f.unsigned },
      record { signed = f.each; unsigned = f.least },
      e ∙ ap (λ (x : Forest). node 0x30 (more (version_tree i) (more (identifier_tree i) x))) w,
    )

pub signer_of_lem : (levels q : ℕ) (t : Tree) → Valid t levels → is 0x30 (tag_of t) ≡ true → signer q (parts_of t) ≡ None →
    (s : Signer) × SignerShape s × (t ≡ signer_tree s)
signer_of_lem levels q t v g e =
    let n = node_of 0x30 levels t bit_30 v g in
    let c = leaf_chosen 2 by_version q (levels - 1) n.0 n.2 refl (ap (λ (x : Tree). signer q (parts_of x)) (sym n.1) ∙ e) in
    by n c (version_of_lem c.body c.at c.after c.rest c.behind)
  where
    by : (n : (parts : Forest) × (t ≡ node 0x30 parts) × Valids parts (levels - 1)) (c : LeafChosen 2 by_version (levels - 1) n.0) →
        ((c.body ≡ 1 ∷ []) × (signer_fields 0x30 c.after c.rest ≡ None)) ⊎ ((c.body ≡ 3 ∷ []) × (signer_fields 0x80 c.after c.rest ≡ None)) →
        (s : Signer) × SignerShape s × (t ≡ signer_tree s)
    by n c (inl (b, r)) =
        let i = node_first 0x30 free (field (is 0x30) (field (is 6) free free) from_signed) c.after (levels - 1) c.rest c.valids bit_30 r in
        let a₁ = n.1 in
        let a₂ = c.whole in
        let a₃ = i.whole in
        signer_with_lem t (issuer i.parts) i.rest (fields_of (levels - 1) i.after i.rest i.valids i.behind) cc
    by n c (inr (b, r)) =
        let i = leaf_first 0x80 free (field (is 0x30) (field (is 6) free free) from_signed) c.after (levels - 1) c.rest c.valids refl r in
        let a₁ = n.1 in
        let a₂ = c.whole in
        let a₃ = i.whole in
        signer_with_lem t (key i.body) i.rest (fields_of (levels - 1) i.after i.rest i.valids i.behind) cc
