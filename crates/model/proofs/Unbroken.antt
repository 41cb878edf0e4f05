-- What it says that a rule finds no break.
use Rattle.std.proofs.Common.{◌≡◌, ℕ, ◌+◌, ◌-◌, ◌<◌, Bool, true, false, cond, ◌⊎◌, List, [], ◌∷◌, length, Some, None, Option, sym, refl, ap, ◌∙◌, subst, inl, inr, arith}
use lib.Bits.{bit_and}
use Rattle.std.proofs.lemmas.Bool.{eqb-true}
use Rattle.std.specs.List.{AllByRecursion}
use Rattle.der.specs.Trees.{Tree, leaf, node, Forest, none, more, Valid, Valids, tag_of, body_of}
use Rattle.fields.specs.Reads.{is}
use Rattle.fields.specs.Rules.{parts_of, head_size, body_size, or_else, Rule, Tags, nothing, onward, field, optional, list, some, choose, follow}
use Rattle.model.specs.Parts.{row_of}

pub some_not_none : {A : Type 0} (x : A) → ◌≡◌ {A = Option A} (Some x) None → ⊥
some_not_none x e = let z : ◌≡◌ {A = ℕ} 0 1 = cc in omega arith

pub cond_none : (b : Bool) (x : Option ℕ) (p : ℕ) → cond b x (Some p) ≡ None → (b ≡ true) × (x ≡ None)
cond_none true x p e = (refl, e)
cond_none false x p e = absurd (some_not_none p e)

pub or_none : (x y : Option ℕ) → or_else x y ≡ None → (x ≡ None) × (y ≡ None)
or_none None y e = (refl, e)
or_none (Some p) y e = absurd (some_not_none p e)

-- the first element has the tag, and neither its inside nor what is behind it has a break
pub record First (tags : Tags) (inner next : Rule) (p : ℕ) (ts : Forest) : Type 0 where
  pub tree : Tree
  pub rest : Forest
  pub whole : ts ≡ more tree rest
  pub tagged : tags (tag_of tree) ≡ true
  pub inside : inner (p + head_size tree) (parts_of tree) ≡ None
  pub behind : next (p + head_size tree + body_size tree) rest ≡ None

pub field_none : (tags : Tags) (inner next : Rule) (p : ℕ) (ts : Forest) → field tags inner next p ts ≡ None → First tags inner next p ts
field_none tags inner next p none e = absurd (some_not_none p e)
field_none tags inner next p (more t ts) e =
    let c = cond_none (tags (tag_of t)) _ p e in
    let o = or_none _ _ c.1 in
    record { tree = t; rest = ts; whole = refl; tagged = c.0; inside = o.0; behind = o.1 }

-- either it is not there, and the rest has no break, or it is the first
pub optional_none : (tags : Tags) (inner next : Rule) (p : ℕ) (ts : Forest) → optional tags inner next p ts ≡ None →
    (next p ts ≡ None) ⊎ First tags inner next p ts
optional_none tags inner next p none e = inl e
optional_none tags inner next p (more t ts) e = by (tags (tag_of t)) refl e
  where
    by : (b : Bool) → tags (tag_of t) ≡ b → cond b (onward inner next p t ts) (next p (more t ts)) ≡ None → (next p (more t ts) ≡ None) ⊎ First tags inner next p (more t ts)
    by true q e = let o = or_none _ _ e in inr (record { tree = t; rest = ts; whole = refl; tagged = q; inside = o.0; behind = o.1 })
    by false q e = inl e

pub nothing_none : (p : ℕ) (ts : Forest) → nothing p ts ≡ None → ts ≡ none
nothing_none p none e = refl
nothing_none p (more t ts) e = absurd (some_not_none p e)

-- an element of this tag, whose contents decide what follows
pub record Chosen (tag : ℕ) (next : List ℕ → Option Rule) (p : ℕ) (ts : Forest) : Type 0 where
  pub tree : Tree
  pub rest : Forest
  pub whole : ts ≡ more tree rest
  pub tagged : is tag (tag_of tree) ≡ true
  pub behind : follow (next (body_of tree)) p (p + head_size tree + body_size tree) rest ≡ None

pub choose_none : (tag : ℕ) (next : List ℕ → Option Rule) (p : ℕ) (ts : Forest) → choose tag next p ts ≡ None → Chosen tag next p ts
choose_none tag next p none e = absurd (some_not_none p e)
choose_none tag next p (more t ts) e =
    let c = cond_none (is tag (tag_of t)) _ p e in
    record { tree = t; rest = ts; whole = refl; tagged = c.0; behind = c.1 }

-- a constructed tag is a node's, another a leaf's
pub node_of : (tag levels : ℕ) (t : Tree) → (bit_and tag 32 ≡ 0 → ⊥) → Valid t levels → is tag (tag_of t) ≡ true →
    (parts : Forest) × (t ≡ node tag parts) × Valids parts (levels - 1)
node_of tag levels (leaf k body) c v e = absurd (c (ap (λ (x : ℕ). bit_and x 32) (sym (eqb-true k tag e)) ∙ v.2))
node_of tag levels (node k parts) c v e = (parts, ap (λ (x : ℕ). node x parts) (eqb-true k tag e), v.3)

pub leaf_of : (tag levels : ℕ) (t : Tree) → bit_and tag 32 ≡ 0 → Valid t levels → is tag (tag_of t) ≡ true → (body : List ℕ) × (t ≡ leaf tag body)
leaf_of tag levels (leaf k body) c v e = (body, ap (λ (x : ℕ). leaf x body) (eqb-true k tag e))
leaf_of tag levels (node k parts) c v e = absurd (v.2 (ap (λ (x : ℕ). bit_and x 32) (eqb-true k tag e) ∙ c))

-- entries of a list: each is one of the things that its rule finds no break in
module _ {M : Type 0} (tree : M → Tree) (Keeps : M → Type 0) (tags : Tags) (inner : Rule) (levels : ℕ)
    (one : (q : ℕ) (t : Tree) → Valid t levels → tags (tag_of t) ≡ true → inner q (parts_of t) ≡ None → (m : M) × Keeps m × (t ≡ tree m)) where
  pub entries : (p : ℕ) (ts : Forest) → Valids ts levels → list tags inner p ts ≡ None → (ms : List M) × AllByRecursion Keeps ms × (ts ≡ row_of tree ms)
  entries p none v e = ([], tt, refl)
  entries p (more t ts) v e =
      let c = cond_none (tags (tag_of t)) _ p e in
      let o = or_none _ _ c.1 in
      let m = one (p + head_size t) t v.0 c.0 o.0 in
      let ms = entries (p + head_size t + body_size t) ts v.1 o.1 in
      (m.0 ∷ ms.0, (m.1, ms.1), ap (λ (x : Tree). more x ts) m.2 ∙ ap (λ (x : Forest). more (tree m.0) x) ms.2)

  pub some_entries : (p : ℕ) (ts : Forest) → Valids ts levels → some tags inner p ts ≡ None → (ms : List M) × AllByRecursion Keeps ms × (0 < length ms) × (ts ≡ row_of tree ms)
  some_entries p ts v e =
      let f = field_none tags inner (list tags inner) p ts e in
      let w : Valids (more f.tree f.rest) levels = subst (λ (x : Forest). Valids x levels) f.whole v in
      let m = one (p + head_size f.tree) f.tree w.0 f.tagged f.inside in
      let ms = entries (p + head_size f.tree + body_size f.tree) f.rest w.1 f.behind in (
        m.0 ∷ ms.0,
        (m.1, ms.1),
        omega arith,
        f.whole ∙ ap (λ (x : Tree). more x f.rest) m.2 ∙ ap (λ (x : Forest). more (tree m.0) x) ms.2,
      )

-- a constructed field comes first
pub record NodeFirst (tag : ℕ) (inner next : Rule) (levels : ℕ) (ts : Forest) : Type 0 where
  pub parts : Forest
  pub rest : Forest
  pub whole : ts ≡ more (node tag parts) rest
  pub at : ℕ
  pub inside : inner at parts ≡ None
  pub after : ℕ
  pub behind : next after rest ≡ None
  pub valid : Valids parts (levels - 1)
  pub valids : Valids rest levels

-- another field comes first
pub record LeafFirst (tag : ℕ) (next : Rule) (levels : ℕ) (ts : Forest) : Type 0 where
  pub body : List ℕ
  pub rest : Forest
  pub whole : ts ≡ more (leaf tag body) rest
  pub after : ℕ
  pub behind : next after rest ≡ None
  pub valids : Valids rest levels

module _ (tag : ℕ) (inner next : Rule) (p levels : ℕ) (ts : Forest) (v : Valids ts levels) where
  node_at : (bit_and tag 32 ≡ 0 → ⊥) → First (is tag) inner next p ts → NodeFirst tag inner next levels ts
  node_at c f =
      let w : Valids (more f.tree f.rest) levels = subst (λ (x : Forest). Valids x levels) f.whole v in
      let n = node_of tag levels f.tree c w.0 f.tagged in
      record {
        parts = n.0;
        rest = f.rest;
        whole = f.whole ∙ ap (λ (x : Tree). more x f.rest) n.1;
        at = p + head_size f.tree;
        inside = ap (λ (x : Tree). inner (p + head_size f.tree) (parts_of x)) (sym n.1) ∙ f.inside;
        after = p + head_size f.tree + body_size f.tree;
        behind = f.behind;
        valid = n.2;
        valids = w.1;
      }

  pub node_first : (bit_and tag 32 ≡ 0 → ⊥) → field (is tag) inner next p ts ≡ None → NodeFirst tag inner next levels ts
  node_first c e = node_at c (field_none (is tag) inner next p ts e)

  pub node_maybe : (bit_and tag 32 ≡ 0 → ⊥) → optional (is tag) inner next p ts ≡ None → (next p ts ≡ None) ⊎ NodeFirst tag inner next levels ts
  node_maybe c e = by (optional_none (is tag) inner next p ts e)
    where
      by : (next p ts ≡ None) ⊎ First (is tag) inner next p ts → (next p ts ≡ None) ⊎ NodeFirst tag inner next levels ts
      by (inl q) = inl q
      by (inr f) = inr (node_at c f)

  pub leaf_first : bit_and tag 32 ≡ 0 → field (is tag) inner next p ts ≡ None → LeafFirst tag next levels ts
  leaf_first c e =
      let f = field_none (is tag) inner next p ts e in
      let w : Valids (more f.tree f.rest) levels = subst (λ (x : Forest). Valids x levels) f.whole v in
      let n = leaf_of tag levels f.tree c w.0 f.tagged in
      record {
        body = n.0;
        rest = f.rest;
        whole = f.whole ∙ ap (λ (x : Tree). more x f.rest) n.1;
        after = p + head_size f.tree + body_size f.tree;
        behind = f.behind;
        valids = w.1;
      }

-- a field whose contents decide what follows
pub record LeafChosen (tag : ℕ) (next : List ℕ → Option Rule) (levels : ℕ) (ts : Forest) : Type 0 where
  pub body : List ℕ
  pub rest : Forest
  pub whole : ts ≡ more (leaf tag body) rest
  pub at : ℕ
  pub after : ℕ
  pub behind : follow (next body) at after rest ≡ None
  pub valids : Valids rest levels

pub leaf_chosen : (tag : ℕ) (next : List ℕ → Option Rule) (p levels : ℕ) (ts : Forest) → Valids ts levels → bit_and tag 32 ≡ 0 → choose tag next p ts ≡ None → LeafChosen tag next levels ts
leaf_chosen tag next p levels ts v c e =
    let f = choose_none tag next p ts e in
    let w : Valids (more f.tree f.rest) levels = subst (λ (x : Forest). Valids x levels) f.whole v in
    let n = leaf_of tag levels f.tree c w.0 f.tagged in
    record {
      body = n.0;
      rest = f.rest;
      whole = f.whole ∙ ap (λ (x : Tree). more x f.rest) n.1;
      at = p;
      after = p + head_size f.tree + body_size f.tree;
      behind = ap (λ (x : Tree). follow (next (body_of x)) p (p + head_size f.tree + body_size f.tree) f.rest) (sym n.1) ∙ f.behind;
      valids = w.1;
    }

-- any elements at all
pub elements_of_lem : (ts : Forest) → (xs : List Tree) × (ts ≡ row_of (λ t. t) xs)
elements_of_lem none = ([], refl)
elements_of_lem (more t ts) = let xs = elements_of_lem ts in (t ∷ xs.0, ap (λ (x : Forest). more t x) xs.1)
