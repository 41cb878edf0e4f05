-- An element has no break exactly when it is what a token tells.
use Rattle.std.proofs.Common.{◌≡◌, ℕ, ◌+◌, ◌-◌, Bool, true, false, cond, List, [], ◌∷◌, Some, None, Option, sym, refl, ap, ◌∙◌}
use Rattle.der.specs.Trees.{Tree, leaf, node, Forest, none, more, Valid, Valids, tag_of}
use Rattle.fields.specs.Reads.{is}
use Rattle.fields.specs.Rules.{parts_of, head_size, body_size, or_else, nothing, free, field, follow, one}
use Rattle.model.proofs.Unbroken.{some_not_none, cond_none, or_none, field_none, nothing_none, node_of, node_first, leaf_first, leaf_chosen}
use Rattle.model.proofs.Signing.{bit_30, one_is}
use Rattle.stamp_model.specs.Algorithms.{Algorithm, algorithm_tree}
use Rattle.stamp_model.specs.Tokens.{Info, info_tree}
use Rattle.index.specs.Grammar.{algorithm}
use Rattle.index.proofs.AlgorithmTrees.{algorithm_of_lem, algorithm_kept}
use Rattle.token.specs.Grammar.{digest, imprint, info_fields, by_info_version, info, first_info_break}

-- the imprint field
imprint_of_lem : (levels p : ℕ) (ts : Forest) → Valids ts levels → imprint p ts ≡ None → (a : Algorithm) × (b : List ℕ) × (ts ≡ more (algorithm_tree a) (more (leaf 4 b) none))
imprint_of_lem levels p none v e = absurd (some_not_none p e)
imprint_of_lem levels p (more t ts) v e =
    let f = field_none (is 0x30) algorithm digest p (more t ts) e in
    let t₁ : t ≡ f.tree = (let q = f.whole in cc) in
    let ts₁ : ts ≡ f.rest = (let q = f.whole in cc) in
    let a = algorithm_of_lem levels (p + head_size f.tree) t v.0 (ap (λ (x : Tree). is 0x30 (tag_of x)) t₁ ∙ f.tagged) (ap (λ (x : Tree). algorithm (p + head_size f.tree) (parts_of x)) t₁ ∙ f.inside) in
    let d = leaf_first 4 free nothing (p + head_size f.tree + body_size f.tree) levels ts v.1 refl (ap (digest (p + head_size f.tree + body_size f.tree)) ts₁ ∙ f.behind) in
    let n : d.rest ≡ none = nothing_none d.after d.rest d.behind in
    let a₁ = a.1 in
    let d₁ = d.whole in
    (a.0, d.body, cc)

version_of_lem : (body : List ℕ) (at after : ℕ) (rest : Forest) → follow (by_info_version body) at after rest ≡ None → (body ≡ 1 ∷ []) × (info_fields after rest ≡ None)
version_of_lem body at after rest e = by (one 1 body) refl e
  where
    by : (b : Bool) → one 1 body ≡ b → follow (cond b (Some info_fields) None) at after rest ≡ None → (body ≡ 1 ∷ []) × (info_fields after rest ≡ None)
    by true q e = (one_is 1 body q, e)
    by false q e = absurd (some_not_none at e)

-- put together again
built : (t : Tree) (parts rest rest' imprints others : Forest) (version policy digest : List ℕ) (a : Algorithm) → t ≡ node 0x30 parts → parts ≡ more (leaf 2 version) rest → version ≡ 1 ∷ [] →
    rest ≡ more (leaf 6 policy) rest' → rest' ≡ more (node 0x30 imprints) others → imprints ≡ more (algorithm_tree a) (more (leaf 4 digest) none) →
    t ≡ info_tree (record { policy = policy; algorithm = a; imprint = digest; rest = others })
built t parts rest rest' imprints others version policy digest a e₁ e₂ e₃ e₄ e₅ e₆ = cc

info_of_lem : (levels q : ℕ) (t : Tree) → Valid t levels → is 0x30 (tag_of t) ≡ true → info q (parts_of t) ≡ None → (i : Info) × (t ≡ info_tree i)
info_of_lem levels q t v g e =
    let n = node_of 0x30 levels t bit_30 v g in
    let c = leaf_chosen 2 by_info_version q (levels - 1) n.0 n.2 refl (ap (λ (x : Tree). info q (parts_of x)) (sym n.1) ∙ e) in
    let w = version_of_lem c.body c.at c.after c.rest c.behind in
    let p = leaf_first 6 free (field (is 0x30) imprint free) c.after (levels - 1) c.rest c.valids refl w.1 in
    let m = node_first 0x30 imprint free p.after (levels - 1) p.rest p.valids bit_30 p.behind in
    let i = imprint_of_lem (levels - 1 - 1) m.at m.parts m.valid m.inside in (
      record { policy = p.body; algorithm = i.0; imprint = i.1; rest = m.rest },
      built t n.0 c.rest p.rest m.parts m.rest c.body p.body i.1 i.0 n.1 c.whole w.0 p.whole m.whole i.2,
    )

pub no_break_is_info : (place levels : ℕ) (t : Tree) → Valid t levels → first_info_break place t [] ≡ None → (i : Info) × (t ≡ info_tree i)
no_break_is_info place levels t v e =
    let c = cond_none (is 0x30 (tag_of t)) _ place e in
    let o = or_none (info (place + head_size t) (parts_of t)) None c.1 in
    info_of_lem levels (place + head_size t) t v c.0 o.0

-- and what a token tells has none
pub info_kept : (place : ℕ) (i : Info) → first_info_break place (info_tree i) [] ≡ None
info_kept place i = rest_kept (algorithm_kept _ i.algorithm)
  where
    rest_kept : {o : Option ℕ} → o ≡ None → or_else (or_else (or_else o None) None) None ≡ None
    rest_kept e = cc
