-- What a reading gives lies where the tree says: one lemma for each way to read.
use Rattle.std.proofs.Common.{◌≡◌, ℕ, zero, suc, ◌+◌, ◌-◌, ◌≤◌, Bool, true, false, cond, eqb, ltb, List, [], ◌∷◌, length, Some, None, Ok, Err, Option, Result, sym, refl, ap, ◌∙◌, subst, arith}
use Rattle.std.proofs.lemmas.Bool.{cond-true, cond-false, eqb-true, lt-ltb}
use Rattle.std.specs.Str.{bytes_eq}
use Rattle.der.specs.declared.span.Span.{Span}
use Rattle.der.specs.Trees.{Tree, Forest, none, more, Constructed, tag_of}
use Rattle.fields.specs.declared.located.Number.{Number}
use Rattle.fields.specs.Placed.{located, Placed, span_of, placed_from, inside_of, if_first, past, mapped, entries_for}
use Rattle.fields.specs.Reads.{◌>>=◌, is, Reading, tagged, allowed_of, expect_of, if_tagged, optional_of, finish_of, byte_in, contents_at, number_of, same_as, named_of, count_of, list_of, some_of, entries_in, maybe_of, behind, span_stop}
use Rattle.fields.specs.Rules.{head_size, body_size, Rule, Tags}
use Rattle.fields.proofs.Steps.{then_ok, then_then, Gives, gives_then, gives_ok, gives_err, gives_weaker}
use Rattle.fields.proofs.Counting.{count_end}
use Rattle.fields.proofs.Standing.{At, none_left, none_read, first_read, first_fits, rest_at, inside_at}
use Rattle.fields.proofs.Links.{Each, maybe_stop}

-- a step of which something is known
pub lie_then : {X Y : Type 0} (Q : X → Type 0) (P : Y → Type 0) (r : Result X ℕ) (k : X → Result Y ℕ) → Gives Q r → ((x : X) → Q x → Gives P (k x)) → Gives P (r >>= k)
lie_then Q P r k g f = gives_then P r k (λ x q. f x (g.holds x q))

pub by_cond : {X Y : Type 0} (b : Bool) (P : Y → Type 0) (x : X) (at : ℕ) (k : X → Result Y ℕ) → (b ≡ true → Gives P (k x)) → Gives P (cond b (Ok x) (Err at) >>= k)
by_cond true P x at k f = f refl
by_cond false P x at k f = gives_err P at

module _ (levels : ℕ) (file : List ℕ) (end : ℕ) where
  -- an element with such a tag
  pub lie_allowed : {X : Type 0} (tags : Tags) (P : Forest → X → Type 0) (k : Span → Result X ℕ) (at : ℕ) (ts : Forest) → At levels file at end ts →
      ((t : Tree) (ts' : Forest) → At levels file at end (more t ts') → tags (tag_of t) ≡ true → Gives (P (more t ts')) (k (located at t))) →
      Gives (P ts) (allowed_of tags file at end >>= k)
  lie_allowed tags P k at none a f = subst (λ (r : Result Span ℕ). Gives (P none) ((r >>= tagged at tags) >>= k)) (sym (none_read levels file at end a)) (gives_err (P none) at)
  lie_allowed tags P k at (more t ts) a f =
      subst (λ (r : Result Span ℕ). Gives (P (more t ts)) ((r >>= tagged at tags) >>= k)) (sym (first_read levels file at end t ts a))
      (by_cond (tags (tag_of t)) (P (more t ts)) (located at t) at k (f t ts a))

  pub lie_field : {X : Type 0} (tag : ℕ) (P : Forest → X → Type 0) (k : Span → Result X ℕ) (at : ℕ) (ts : Forest) → At levels file at end ts →
      ((t : Tree) (ts' : Forest) → At levels file at end (more t ts') → tag_of t ≡ tag → Gives (P (more t ts')) (k (located at t))) →
      Gives (P ts) (expect_of tag file at end >>= k)
  lie_field tag P k at ts a f = lie_allowed (is tag) P k at ts a (λ t ts' a' b. f t ts' a' (eqb-true (tag_of t) tag b))

  -- nothing more
  pub lie_finish : {X : Type 0} (P : Forest → X → Type 0) (k : Unit {0} → Result X ℕ) (at : ℕ) (ts : Forest) → At levels file at end ts →
      Gives (P none) (k tt) → Gives (P ts) (finish_of at end >>= k)
  lie_finish P k at none a g = gives_then (P none) (finish_of at end) k (λ u _. g)
  lie_finish P k at (more t ts) a g =
      subst (λ (r : Result (Unit {0}) ℕ). Gives (P (more t ts)) (r >>= k)) (sym (cond-true (ltb at end) _ _ (lt-ltb at end (omega (arith, first_fits levels file at end t ts a)))))
      (gives_err (P (more t ts)) at)

  -- an element of one byte
  by_byte : {X : Type 0} (P : X → Type 0) (k : Number → Result X ℕ) (at : ℕ) (e : Span) (body : List ℕ) → ((v : ℕ) → Gives P (k (record { element = e; value = v }))) →
      Gives P (byte_in at e body >>= k)
  by_byte P k at e [] f = gives_err P at
  by_byte P k at e (v ∷ []) f = f v
  by_byte P k at e (v ∷ w ∷ ws) f = gives_err P at

  pub lie_number : {X : Type 0} (P : Forest → X → Type 0) (k : Number → Result X ℕ) (at : ℕ) (ts : Forest) → At levels file at end ts →
      ((t : Tree) (ts' : Forest) → At levels file at end (more t ts') → (v : ℕ) → Gives (P (more t ts')) (k (record { element = located at t; value = v }))) →
      Gives (P ts) (number_of file at end >>= k)
  lie_number P k at ts a f =
      subst (Gives (P ts)) (sym (then_then (expect_of 2 file at end) (λ e. byte_in at e (contents_at file e)) k))
      (lie_field 2 P (λ e. byte_in at e (contents_at file e) >>= k) at ts a (λ t ts' a' _. by_byte (P (more t ts')) k at (located at t) (contents_at file (located at t)) (f t ts' a')))

  -- an identifier
  pub lie_named : {X : Type 0} (name : List ℕ) (P : Forest → X → Type 0) (k : Span → Result X ℕ) (at : ℕ) (ts : Forest) → At levels file at end ts →
      ((t : Tree) (ts' : Forest) → At levels file at end (more t ts') → Gives (P (more t ts')) (k (located at t))) →
      Gives (P ts) (named_of name file at end >>= k)
  lie_named name P k at ts a f =
      subst (Gives (P ts)) (sym (then_then (expect_of 6 file at end) (same_as name file at) k))
      (lie_field 6 P (λ e. same_as name file at e >>= k) at ts a (λ t ts' a' _.
      by_cond (bytes_eq (contents_at file (located at t)) name) (P (more t ts')) (located at t) at k (λ _. f t ts' a')))

  -- an element that is read with its contents
  pub lie_record : {X Y : Type 0} (tag : ℕ) (value : Placed → Y) (P : Forest → X → Type 0) (inside : Span → Result Y ℕ) (k : Y → Result X ℕ) (at : ℕ) (ts : Forest) → At levels file at end ts →
      ((t : Tree) (ts' : Forest) → At levels file at end (more t ts') → tag_of t ≡ tag → Gives (λ y. y ≡ value (record { at = at; tree = t })) (inside (located at t))) →
      ((t : Tree) (ts' : Forest) → At levels file at end (more t ts') → Gives (P (more t ts')) (k (value (record { at = at; tree = t })))) →
      Gives (P ts) ((expect_of tag file at end >>= inside) >>= k)
  lie_record tag value P inside k at ts a f g =
      subst (Gives (P ts)) (sym (then_then (expect_of tag file at end) inside k))
      (lie_field tag P (λ e. inside e >>= k) at ts a (λ t ts' a' e.
      lie_then _ (P (more t ts')) (inside (located at t)) k (f t ts' a' e) (λ y q. subst (λ z. Gives (P (more t ts')) (k z)) (sym q) (g t ts' a'))))

  -- a field that may be there
  pub record Optional {Y : Type 0} (tag : ℕ) (value : Placed → Y) (at : ℕ) (ts : Forest) (o : Option Span) (y : Option Y) (ts' : Forest) : Type 0 where
    pub read : y ≡ mapped value (if_first tag (placed_from at ts))
    pub rest : past tag (placed_from at ts) ≡ placed_from (behind span_stop at o) ts'
    pub stands : At levels file (behind span_stop at o) end ts'

  with_field : {X Y : Type 0} (b : Bool) (P : X → Type 0) (e : Span) (inside : Span → Result Y ℕ) (k : Option Span → Option Y → Result X ℕ) →
      (b ≡ true → (y : Y) → inside e ≡ Ok y → Gives P (k (Some e) (Some y))) → (b ≡ false → Gives P (k None None)) →
      Gives P (maybe_of inside (cond b (Some e) None) >>= k (cond b (Some e) None))
  with_field true P e inside k f g = subst (Gives P) (sym (then_then (inside e) _ (k (Some e)))) (gives_then P (inside e) _ (f refl))
  with_field false P e inside k f g = g refl

  pub lie_optional : {X Y : Type 0} (tag : ℕ) (value : Placed → Y) (P : X → Type 0) (inside : Span → Result Y ℕ) (k : Option Span → Option Y → Result X ℕ) (at : ℕ) (ts : Forest) → At levels file at end ts →
      ((t : Tree) (ts' : Forest) → At levels file at end (more t ts') → tag_of t ≡ tag → Gives (λ y. y ≡ value (record { at = at; tree = t })) (inside (located at t))) →
      ((o : Option Span) (y : Option Y) (ts' : Forest) → maybe_of inside o ≡ Ok y → Optional tag value at ts o y ts' → Gives P (k o y)) →
      Gives P (maybe_of inside (optional_of tag file at end) >>= k (optional_of tag file at end))
  lie_optional tag value P inside k at none a f g =
      subst (λ (r : Result Span ℕ). Gives P (maybe_of inside (if_tagged tag r) >>= k (if_tagged tag r))) (sym (none_read levels file at end a))
      (g None None none refl (record { read = refl; rest = refl; stands = a }))
  lie_optional tag value P inside k at (more t ts) a f g =
      let x : Placed = record { at = at; tree = t } in
      subst (λ (r : Result Span ℕ). Gives P (maybe_of inside (if_tagged tag r) >>= k (if_tagged tag r))) (sym (first_read levels file at end t ts a))
      (with_field (eqb (tag_of t) tag) P (located at t) inside k
      (λ b y q. g (Some (located at t)) (Some y) ts (then_ok (inside (located at t)) y _ (sym q)) (record {
        read = ap {B = Option _} Some ((f t ts a (eqb-true (tag_of t) tag b)).holds y q) ∙ ap (mapped value) (sym (cond-true (eqb (tag_of t) tag) (Some x) None b));
        rest = cond-true (eqb (tag_of t) tag) _ _ b;
        stands = rest_at levels file at end t ts a;
      }))
      (λ b. g None None (more t ts) refl (record {
        read = ap (mapped value) (sym (cond-false (eqb (tag_of t) tag) (Some x) None b));
        rest = cond-false (eqb (tag_of t) tag) _ _ b;
        stands = a;
      })))

  -- how many entries there are
  lie_count : (each : Reading) (tags : Tags) (inner : Rule) → Each levels file end each tags inner → (fuel at n : ℕ) (ts : Forest) → At levels file at end ts → end - at ≤ fuel →
      Gives (λ m. m ≡ n + length (placed_from at ts)) (count_of each fuel file at end n)
  lie_count each tags inner w fuel at n none a l =
      subst (Gives (λ m. m ≡ n + 0)) (sym (count_end each file end fuel at n (omega (arith, none_left levels file at end a)))) (gives_ok _ n (omega arith))
  lie_count each tags inner w zero at n (more t ts) a l = absurd (omega (arith, first_fits levels file at end t ts a))
  lie_count each tags inner w (suc fuel) at n (more t ts) a l =
      let m : at + head_size t + body_size t ≤ end = first_fits levels file at end t ts a in
      subst (Gives _) (sym (cond-true (ltb at end) _ _ (lt-ltb at end (omega arith))))
      (gives_then _ (each file at end) _ (λ e q.
      subst (λ (p : ℕ). Gives (λ z. z ≡ n + suc (length (placed_from (at + head_size t + body_size t) ts))) (count_of each fuel file p end (n + 1))) (sym (w.stops at t ts e a q))
      (gives_weaker _ _ _ (λ z y. omega (arith, y)) (lie_count each tags inner w fuel (at + head_size t + body_size t) (n + 1) ts (rest_at levels file at end t ts a) (omega arith)))))

  pub lie_list : (each : Reading) (tags : Tags) (inner : Rule) → Each levels file end each tags inner → (at : ℕ) (ts : Forest) → At levels file at end ts →
      Gives (λ m. m ≡ length (placed_from at ts)) (list_of each file at end)
  lie_list each tags inner w at ts a = gives_weaker _ _ _ (λ z y. omega (arith, y)) (lie_count each tags inner w (end - at) at 0 ts a (omega arith))

  by_some : (b : Bool) (P : ℕ → Type 0) (r : Result ℕ ℕ) (p : ℕ) → Gives P r → Gives P (cond b r (Err p))
  by_some true P r p g = g
  by_some false P r p g = gives_err P p

  pub lie_some : (each : Reading) (tags : Tags) (inner : Rule) → Each levels file end each tags inner → (at : ℕ) (ts : Forest) → At levels file at end ts →
      Gives (λ m. m ≡ length (placed_from at ts)) (some_of each file at end)
  lie_some each tags inner w at ts a = by_some (ltb at end) _ (list_of each file at end) end (lie_list each tags inner w at ts a)

-- a field that holds a list
pub lie_entries : (counted : List ℕ → ℕ → ℕ → Result ℕ ℕ) (file : List ℕ) (x : Placed) →
    Gives (λ m. m ≡ length (inside_of x)) (counted file (span_of x).body (span_of x).end) → Gives (λ y. y ≡ entries_for x) (entries_in counted file (span_of x))
lie_entries counted file x g = lie_then _ _ _ _ g (λ m q. gives_ok _ _ (λ i. record { field = span_of x; count = q i }))

module _ (each : Reading) (tags : Tags) (inner : Rule) (levels : ℕ) (file : List ℕ) (w : (stop : ℕ) → Each (levels - 1) file stop each tags inner) (at end : ℕ) (t : Tree) (ts : Forest)
    (a : At levels file at end (more t ts)) (tag : ℕ) (e : tag_of t ≡ tag) (k : Constructed tag) where
  pub lie_list_entries : Gives (λ y. y ≡ entries_for (record { at = at; tree = t })) (entries_in (list_of each) file (located at t))
  lie_list_entries = lie_entries (list_of each) file (record { at = at; tree = t }) (lie_list (levels - 1) file _ each tags inner (w _) _ _ (inside_at levels file at end t ts a tag e k))

  pub lie_some_entries : Gives (λ y. y ≡ entries_for (record { at = at; tree = t })) (entries_in (some_of each) file (located at t))
  lie_some_entries = lie_entries (some_of each) file (record { at = at; tree = t }) (lie_some (levels - 1) file _ each tags inner (w _) _ _ (inside_at levels file at end t ts a tag e k))

-- a step of which nothing is needed
pub lie_step : {X Y : Type 0} (P : Y → Type 0) (r : Result X ℕ) (k : X → Result Y ℕ) → ((x : X) → Gives P (k x)) → Gives P (r >>= k)
lie_step P r k f = gives_then P r k (λ x _. f x)

-- a last check
pub lie_check : {X U : Type 0} (P : X → Type 0) (r : Result U ℕ) (x : X) → P x → Gives P (r >>= (λ _. Ok x))
lie_check P r x p = gives_then P r (λ _. Ok x) (λ _ _. gives_ok P x p)

-- a field that may be there, where what is read says where it ends
pub lie_maybe : {X Y : Type 0} (levels : ℕ) (file : List ℕ) (end tag : ℕ) (value : Placed → Y) (P : X → Type 0) (inside : Span → Result Y ℕ) (stop : Y → ℕ) (k : Option Y → Result X ℕ) (at : ℕ) (ts : Forest) → At levels file at end ts →
    ((e : Span) (y : Y) → inside e ≡ Ok y → stop y ≡ e.end) →
    ((t : Tree) (ts' : Forest) → At levels file at end (more t ts') → tag_of t ≡ tag → Gives (λ y. y ≡ value (record { at = at; tree = t })) (inside (located at t))) →
    ((y : Option Y) (ts' : Forest) → y ≡ mapped value (if_first tag (placed_from at ts)) → past tag (placed_from at ts) ≡ placed_from (behind stop at y) ts' →
    At levels file (behind stop at y) end ts' → Gives P (k y)) →
    Gives P (maybe_of inside (optional_of tag file at end) >>= k)
lie_maybe levels file end tag value P inside stop k at ts a s f g =
    lie_optional levels file end tag value P inside (λ _. k) at ts a f (λ o y ts' q w.
    let e : behind stop at y ≡ behind span_stop at o = maybe_stop levels file end inside stop at s o y q in
    g y ts' w.read (w.rest ∙ ap (λ (p : ℕ). placed_from p ts') (sym e)) (subst (λ (p : ℕ). At levels file p end ts') (sym e) w.stands))
