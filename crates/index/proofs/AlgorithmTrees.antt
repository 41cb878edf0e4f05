-- An element has no break exactly when it is an algorithm.
use Rattle.std.proofs.Common.{◌≡◌, ℕ, ◌-◌, Bool, true, false, ◌&&◌, eqb, List, [], ◌∷◌, length, None, sym, refl, ap, ◌∙◌, arith}
use Rattle.std.proofs.lemmas.Bool.{eqb-true}
use Rattle.der.specs.Trees.{Tree, Forest, none, more, Valid, Valids, tag_of, body_of}
use Rattle.fields.specs.Reads.{is}
use Rattle.fields.specs.Rules.{parts_of, body_size, free}
use Rattle.model.proofs.Unbroken.{cond_none, nothing_none, node_of, leaf_of, leaf_first}
use Rattle.model.proofs.Signing.{bit_30}
use Rattle.stamp_model.specs.Algorithms.{Algorithm, null_part, algorithm_tree}
use Rattle.index.specs.Grammar.{is_null, parameters, algorithm}

pub and_both : (a b : Bool) → (a && b) ≡ true → (a ≡ true) × (b ≡ true)
and_both true b e = (refl, e)
and_both false b e = absurd (let z : ◌≡◌ {A = ℕ} 0 1 = cc in omega arith)

none_long : (xs : List ℕ) → length xs ≡ 0 → xs ≡ []
none_long [] e = refl
none_long (x ∷ xs) e = absurd (omega arith)

-- parameters with no break: 05 00, or none
parameters_of : (levels p : ℕ) (ts : Forest) → Valids ts levels → parameters p ts ≡ None → (b : Bool) × (ts ≡ null_part b)
parameters_of levels p none v e = (false, refl)
parameters_of levels p (more t ts) v e =
    let c = cond_none (is_null t) _ p e in
    let (tag, size) = and_both (is 5 (tag_of t)) (eqb (body_size t) 0) c.0 in
    let l = leaf_of 5 levels t refl v.0 tag in
    let a₁ = l.1 in
    let a₂ : l.0 ≡ [] = none_long l.0 (ap (λ (x : Tree). length (body_of x)) (sym a₁) ∙ eqb-true (body_size t) 0 size) in
    let a₃ : ts ≡ none = nothing_none _ ts c.1 in
    (true, cc)

pub algorithm_of_lem : (levels q : ℕ) (t : Tree) → Valid t levels → is 0x30 (tag_of t) ≡ true → algorithm q (parts_of t) ≡ None → (a : Algorithm) × (t ≡ algorithm_tree a)
algorithm_of_lem levels q t v g e =
    let n = node_of 0x30 levels t bit_30 v g in
    let f = leaf_first 6 free parameters q (levels - 1) n.0 n.2 refl (ap (λ (x : Tree). algorithm q (parts_of x)) (sym n.1) ∙ e) in
    let b = parameters_of (levels - 1) f.after f.rest f.valids f.behind in
    let a₁ = n.1 in
    let a₂ = f.whole in
    let a₃ = b.1 in
    (record { name = f.body; null = b.0 }, cc)

parameters_kept : (p : ℕ) (b : Bool) → parameters p (null_part b) ≡ None
parameters_kept p true = refl
parameters_kept p false = refl

pub algorithm_kept : (q : ℕ) (a : Algorithm) → algorithm q (parts_of (algorithm_tree a)) ≡ None
algorithm_kept q a = parameters_kept _ a.null
