-- There is no break exactly when a signer has one unsigned attribute, of the type of indexes, with one value.
use Rattle.std.proofs.Common.{◌≡◌, ℕ, Bool, true, false, cond, List, [], ◌∷◌, Some, None, Option, refl, ap}
use Rattle.std.specs.Str.{bytes_eq}
use Rattle.std.proofs.lemmas.Slice.Eq.{bytes_eq-Decides}
use Rattle.der.specs.Trees.{Tree, leaf, node, Forest, none, more}
use Rattle.fields.specs.Rules.{follow}
use Rattle.model.specs.Parts.{row_of, row, maybe, Attribute, attribute_tree, unsigned_tree}
use Rattle.model.proofs.Unbroken.{some_not_none, or_none}
use Rattle.stamp_model.specs.Stamps.{index_kind}
use Rattle.stamp.specs.Grammar.{one_value, values, index_attribute, one_attribute, carried}

-- one value
value_of : (p : ℕ) (vs : List Tree) → one_value p (row vs) ≡ None → (v : Tree) × (vs ≡ v ∷ [])
value_of p [] e = absurd (some_not_none p e)
value_of p (v ∷ []) e = (v, refl)
value_of p (v ∷ w ∷ vs) e = absurd (some_not_none _ e)

kind_of : (b : Bool) (p q : ℕ) (ts : Forest) → follow (cond b (Some values) None) p q ts ≡ None → (b ≡ true) × (values q ts ≡ None)
kind_of true p q ts e = (refl, e)
kind_of false p q ts e = absurd (some_not_none p e)

-- the attribute
attribute_of_lem : (p : ℕ) (a : Attribute) → index_attribute p (more (leaf 6 a.kind) (more (node 0x31 (row a.values)) none)) ≡ None → (v : Tree) × (a ≡ record { kind = index_kind; values = v ∷ [] })
attribute_of_lem p a e =
    let k = kind_of (bytes_eq a.kind index_kind) p _ _ e in
    let o = or_none (one_value _ (row a.values)) None k.1 in
    let v = value_of _ a.values o.0 in
    let q : a.kind ≡ index_kind = (bytes_eq-Decides a.kind index_kind).0 k.0 in
    let r = v.1 in
    (v.0, λ i. record { kind = q i; values = r i })

pub carried_of_lem : (p : ℕ) (u : Option (List Attribute)) → carried p (maybe unsigned_tree u none) ≡ None → (v : Tree) × (u ≡ Some (record { kind = index_kind; values = v ∷ [] } ∷ []))
carried_of_lem p None e = absurd (some_not_none p e)
carried_of_lem p (Some []) e = absurd (some_not_none _ e)
carried_of_lem p (Some (a ∷ [])) e =
    let o = or_none (one_attribute _ (row_of attribute_tree (a ∷ []))) None e in
    let i = or_none (index_attribute _ (more (leaf 6 a.kind) (more (node 0x31 (row a.values)) none))) None o.0 in
    let v = attribute_of_lem _ a i.0 in
    (v.0, ap (λ (x : Attribute). Some (x ∷ [])) v.1)
carried_of_lem p (Some (a ∷ b ∷ others)) e =
    let o = or_none (one_attribute _ (row_of attribute_tree (a ∷ b ∷ others))) None e in
    let i = or_none (index_attribute _ (more (leaf 6 a.kind) (more (node 0x31 (row a.values)) none))) (Some _) o.0 in
    absurd (some_not_none _ i.1)

-- and where a signer carries one, there is no break
pub carried_kept : (p : ℕ) (v : Tree) → carried p (maybe unsigned_tree (Some (record { kind = index_kind; values = v ∷ [] } ∷ [])) none) ≡ None
carried_kept p v = refl
