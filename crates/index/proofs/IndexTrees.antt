-- An element has no break exactly when it is an index.
use Rattle.std.proofs.Common.{◌≡◌, ℕ, ◌+◌, ◌-◌, Bool, true, false, cond, List, [], ◌∷◌, Some, None, Option, sym, refl, ap, ◌∙◌}
use Rattle.der.specs.Trees.{Tree, node, Forest, none, more, Valid, Valids, tag_of}
use Rattle.fields.specs.Reads.{is}
use Rattle.fields.specs.Rules.{parts_of, head_size, body_size, or_else, nothing, free, onward, field}
use Rattle.model.specs.Parts.{row_of, maybe}
use Rattle.model.proofs.Unbroken.{some_not_none, cond_none, or_none, nothing_none, node_of, leaf_of, entries as entries-of, node_first}
use Rattle.model.proofs.Signing.{bit_30}
use Rattle.stamp_model.specs.Algorithms.{Algorithm, algorithm_tree}
use Rattle.stamp_model.specs.Indexes.{Index, entry_tree, entries_tree, index_tree}
use Rattle.index.specs.Grammar.{begins, is_algorithm, algorithm, entries, lists, index, index_break}
use Rattle.index.proofs.AlgorithmTrees.{and_both, algorithm_of_lem, algorithm_kept}

-- a list with no break holds octet strings
list_of : (levels p : ℕ) (ts : Forest) → Valids ts levels → entries p ts ≡ None → (es : List (List ℕ)) × (ts ≡ row_of entry_tree es)
list_of levels p ts v e =
    let es = entries-of entry_tree (λ _. Unit {0}) (is 4) free levels (λ q t w g _. let l = leaf_of 4 levels t refl w g in (l.0, tt, l.1)) p ts v e in
    (es.0, es.2)

-- the three lists
pub record Lists (ts : Forest) : Type 0 where
  pub certificates : List (List ℕ)
  pub revocations : List (List ℕ)
  pub attributes : List (List ℕ)
  pub whole : ts ≡ more (entries_tree certificates) (more (entries_tree revocations) (more (entries_tree attributes) none))

lists_of : (levels p : ℕ) (ts : Forest) → Valids ts levels → lists p ts ≡ None → Lists ts
lists_of levels p ts v e =
    let f₁ = node_first 0x30 entries (field (is 0x30) entries (field (is 0x30) entries nothing)) p levels ts v bit_30 e in
    let f₂ = node_first 0x30 entries (field (is 0x30) entries nothing) f₁.after levels f₁.rest f₁.valids bit_30 f₁.behind in
    let f₃ = node_first 0x30 entries nothing f₂.after levels f₂.rest f₂.valids bit_30 f₂.behind in
    let c = list_of (levels - 1) f₁.at f₁.parts f₁.valid f₁.inside in
    let r = list_of (levels - 1) f₂.at f₂.parts f₂.valid f₂.inside in
    let u = list_of (levels - 1) f₃.at f₃.parts f₃.valid f₃.inside in
    let a₁ = f₁.whole in
    let a₂ = f₂.whole in
    let a₃ = f₃.whole in
    let a₄ : f₃.rest ≡ none = nothing_none f₃.after f₃.rest f₃.behind in
    let a₅ = c.1 in
    let a₆ = r.1 in
    let a₇ = u.1 in
    record { certificates = c.0; revocations = r.0; attributes = u.0; whole = cc }

-- with an algorithm that may be there
with_lists : (o : Option Algorithm) (ts : Forest) → Lists ts → (x : Index) × (node 0x30 (maybe algorithm_tree o ts) ≡ index_tree x)
with_lists o ts l = (
  record { algorithm = o; certificates = l.certificates; revocations = l.revocations; attributes = l.attributes },
  ap (λ (us : Forest). node 0x30 (maybe algorithm_tree o us)) l.whole,
)

fields_of : (levels p : ℕ) (ts : Forest) → Valids ts levels → index p ts ≡ None → (x : Index) × (node 0x30 ts ≡ index_tree x)
fields_of levels p none v e = absurd (some_not_none p e)
fields_of levels p (more t ts) v e = by (is_algorithm t) refl e
  where
    by : (b : Bool) → is_algorithm t ≡ b → cond b (onward algorithm lists p t ts) (lists p (more t ts)) ≡ None → (x : Index) × (node 0x30 (more t ts) ≡ index_tree x)
    by true q e =
        let o = or_none (algorithm (p + head_size t) (parts_of t)) _ e in
        let a = algorithm_of_lem levels (p + head_size t) t v.0 (and_both (is 0x30 (tag_of t)) (begins 6 (parts_of t)) q).0 o.0 in
        let x = with_lists (Some a.0) ts (lists_of levels _ ts v.1 o.1) in
        (x.0, ap (λ (u : Tree). node 0x30 (more u ts)) a.1 ∙ x.1)
    by false q e = with_lists None (more t ts) (lists_of levels p (more t ts) v e)

pub no_break_is_index : (levels place : ℕ) (t : Tree) → Valid t levels → index_break place t [] ≡ None → (x : Index) × (t ≡ index_tree x)
no_break_is_index levels place t v e =
    let q = cond_none (is 0x30 (tag_of t)) _ place e in
    let n = node_of 0x30 levels t bit_30 v q.0 in
    let f = fields_of (levels - 1) (place + head_size t) n.0 n.2 (ap (λ (x : Tree). index (place + head_size t) (parts_of x)) (sym n.1) ∙ (or_none _ _ q.1).0) in
    (f.0, n.1 ∙ f.1)

both : (a b : Option ℕ) → a ≡ None → b ≡ None → or_else a b ≡ None
both a b p q = ap (λ (x : Option ℕ). or_else x b) p ∙ q

list_kept : (p : ℕ) (es : List (List ℕ)) → entries p (row_of entry_tree es) ≡ None
list_kept p [] = refl
list_kept p (e ∷ es) = list_kept (p + head_size (entry_tree e) + body_size (entry_tree e)) es

lists_kept : (p : ℕ) (c r u : List (List ℕ)) → lists p (more (entries_tree c) (more (entries_tree r) (more (entries_tree u) none))) ≡ None
lists_kept p c r u = both _ _ (list_kept _ c) (both _ _ (list_kept _ r) (both _ _ (list_kept _ u) refl))

-- a list of entries stands for no algorithm
pub no_algorithm : (es : List (List ℕ)) → is_algorithm (entries_tree es) ≡ false
no_algorithm [] = refl
no_algorithm (e ∷ es) = refl

fields_kept : (p : ℕ) (o : Option Algorithm) (c r u : List (List ℕ)) →
    index p (maybe algorithm_tree o (more (entries_tree c) (more (entries_tree r) (more (entries_tree u) none)))) ≡ None
fields_kept p None c r u =
    ap (λ (b : Bool). cond b (onward algorithm lists p (entries_tree c) (more (entries_tree r) (more (entries_tree u) none))) (lists p (more (entries_tree c) (more (entries_tree r) (more (entries_tree u) none))))) (no_algorithm c)
    ∙ lists_kept p c r u
fields_kept p (Some a) c r u = both _ _ (algorithm_kept _ a) (lists_kept _ c r u)

pub index_has_no_break : (place : ℕ) (x : Index) → index_break place (index_tree x) [] ≡ None
index_has_no_break place x = both _ _ (fields_kept _ x.algorithm x.certificates x.revocations x.attributes) refl
