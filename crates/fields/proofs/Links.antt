-- A reading of bytes breaks off where the rule for their elements breaks: one lemma for each way to make a rule.
use Rattle.std.proofs.Common.{◌≡◌, ℕ, zero, suc, ◌+◌, ◌-◌, ◌≤◌, Bool, true, false, cond, eqb, ltb, List, [], ◌∷◌, length, Some, None, Ok, Err, Option, Result, sym, refl, ap, ◌∙◌, subst, arith}
use Rattle.std.proofs.lemmas.Bool.{cond-true, cond-false, eqb-true, lt-ltb, le-ltb}
use Rattle.std.specs.Str.{bytes_eq}
use Rattle.der.specs.declared.span.Span.{Span}
use Rattle.der.specs.Trees.{Tree, Forest, none, more, Constructed, tag_of, body_of}
use Rattle.fields.specs.declared.located.Number.{Number}
use Rattle.fields.specs.declared.located.Entries.{Entries}
use Rattle.fields.specs.Reads.{◌>>=◌, is, Reading, any_of, tagged, allowed_of, expect_of, if_tagged, optional_of, finish_of, byte_in, contents_at, number_of, same_as, named_of, count_of, list_of, some_of, entries_in, maybe_of, behind, span_stop, broke}
use Rattle.fields.specs.Placed.{located}
use Rattle.fields.specs.Rules.{parts_of, head_size, body_size, Rule, Tags, or_else, nothing, free, onward, field, optional, list, some, follow, choose}
use Rattle.fields.proofs.Steps.{then_ok, then_from, then_then, ok_same, allowed_found}
use Rattle.fields.proofs.Counting.{count_end}
use Rattle.fields.proofs.Standing.{At, none_left, none_read, first_read, first_stop, first_fits, first_body, rest_at, inside_at}
use Rattle.fields.proofs.Tags.{seq}

-- one step, and then what follows it
pub link_then : {X Y : Type 0} (r : Result X ℕ) (k : X → Result Y ℕ) (first later : Option ℕ) → broke r ≡ first → ((x : X) → r ≡ Ok x → broke (k x) ≡ later) →
    broke (r >>= k) ≡ or_else first later
link_then (Ok x) k first later e f = f x refl ∙ ap (λ (o : Option ℕ). or_else o later) e
link_then (Err p) k first later e f = ap (λ (o : Option ℕ). or_else o later) e

-- what is made of the outcome breaks nothing
pub link_end : {X Y : Type 0} (r : Result X ℕ) (f : X → Y) → broke (r >>= (λ x. Ok (f x))) ≡ broke r
link_end (Ok x) f = refl
link_end (Err p) f = refl

pub or_none : (o : Option ℕ) → or_else o None ≡ o
or_none None = refl
or_none (Some p) = refl

pub by_tag : {X : Type 0} (b : Bool) (e : Span) (at : ℕ) (k : Span → Result X ℕ) (o : Option ℕ) → (b ≡ true → broke (k e) ≡ o) →
    broke (cond b (Ok e) (Err at) >>= k) ≡ cond b o (Some at)
by_tag true e at k o f = f refl
by_tag false e at k o f = refl

module _ (levels : ℕ) (file : List ℕ) (end : ℕ) where
  pub link_allowed : {X : Type 0} (tags : Tags) (inner next : Rule) (k : Span → Result X ℕ) (at : ℕ) (ts : Forest) → At levels file at end ts →
      ((t : Tree) (ts' : Forest) → At levels file at end (more t ts') → tags (tag_of t) ≡ true → broke (k (located at t)) ≡ onward inner next at t ts') →
      broke (allowed_of tags file at end >>= k) ≡ field tags inner next at ts
  link_allowed tags inner next k at none a f = ap (λ (r : Result Span ℕ). broke ((r >>= tagged at tags) >>= k)) (none_read levels file at end a)
  link_allowed tags inner next k at (more t ts) a f =
      ap (λ (r : Result Span ℕ). broke ((r >>= tagged at tags) >>= k)) (first_read levels file at end t ts a)
      ∙ by_tag (tags (tag_of t)) (located at t) at k (onward inner next at t ts) (λ b. f t ts a b)

  pub link_field : {X : Type 0} (tag : ℕ) (inner next : Rule) (k : Span → Result X ℕ) (at : ℕ) (ts : Forest) → At levels file at end ts →
      ((t : Tree) (ts' : Forest) → At levels file at end (more t ts') → tag_of t ≡ tag → broke (k (located at t)) ≡ onward inner next at t ts') →
      broke (expect_of tag file at end >>= k) ≡ field (is tag) inner next at ts
  link_field tag inner next k at ts a f = link_allowed (is tag) inner next k at ts a (λ t ts' a' b. f t ts' a' (eqb-true (tag_of t) tag b))

  pub link_nothing : (at : ℕ) (ts : Forest) → At levels file at end ts → broke (finish_of at end) ≡ nothing at ts
  link_nothing at none a = ap {A = Result (Unit {0}) ℕ} broke (cond-false (ltb at end) _ _ (le-ltb at end (omega (arith, none_left levels file at end a))))
  link_nothing at (more t ts) a = ap {A = Result (Unit {0}) ℕ} broke (cond-true (ltb at end) _ _ (lt-ltb at end (omega (arith, first_fits levels file at end t ts a))))

  -- one entry of a list
  pub record Each (each : Reading) (tags : Tags) (inner : Rule) : Type 0 where
    pub breaks : (at : ℕ) (t : Tree) (ts : Forest) → At levels file at end (more t ts) →
        broke (each file at end) ≡ cond (tags (tag_of t)) (inner (at + head_size t) (parts_of t)) (Some at)
    pub stops : (at : ℕ) (t : Tree) (ts : Forest) (e : Span) → At levels file at end (more t ts) → each file at end ≡ Ok e → e.end ≡ at + head_size t + body_size t

  by_entry : (b : Bool) (r : Result Span ℕ) (k : Span → Result ℕ ℕ) (at : ℕ) (inside later : Option ℕ) → broke r ≡ cond b inside (Some at) →
      ((e : Span) → r ≡ Ok e → broke (k e) ≡ later) → broke (r >>= k) ≡ cond b (or_else inside later) (Some at)
  by_entry true r k at inside later e f = link_then r k inside later e f
  by_entry false r k at inside later e f = link_then r k (Some at) later e f

  link_count : (each : Reading) (tags : Tags) (inner : Rule) → Each each tags inner → (fuel at n : ℕ) (ts : Forest) → At levels file at end ts → end - at ≤ fuel →
      broke (count_of each fuel file at end n) ≡ list tags inner at ts
  link_count each tags inner w fuel at n none a l = ap {A = Result ℕ ℕ} broke (count_end each file end fuel at n (omega (arith, none_left levels file at end a)))
  link_count each tags inner w zero at n (more t ts) a l = absurd (omega (arith, first_fits levels file at end t ts a))
  link_count each tags inner w (suc fuel) at n (more t ts) a l =
      let m : at + head_size t + body_size t ≤ end = first_fits levels file at end t ts a in
      ap {A = Result ℕ ℕ} broke (cond-true (ltb at end) _ _ (lt-ltb at end (omega arith)))
      ∙ by_entry (tags (tag_of t)) (each file at end) _ at (inner (at + head_size t) (parts_of t)) _ (w.breaks at t ts a)
      (λ e q. ap (λ (p : ℕ). broke (count_of each fuel file p end (n + 1))) (w.stops at t ts e a q)
      ∙ link_count each tags inner w fuel (at + head_size t + body_size t) (n + 1) ts (rest_at levels file at end t ts a) (omega arith))

  pub link_list : (each : Reading) (tags : Tags) (inner : Rule) → Each each tags inner → (at : ℕ) (ts : Forest) → At levels file at end ts →
      broke (list_of each file at end) ≡ list tags inner at ts
  link_list each tags inner w at ts a = link_count each tags inner w (end - at) at 0 ts a (omega arith)

  pub link_some : (each : Reading) (tags : Tags) (inner : Rule) → Each each tags inner → (at : ℕ) (ts : Forest) → At levels file at end ts →
      broke (some_of each file at end) ≡ some tags inner at ts
  link_some each tags inner w at none a =
      let e : at ≡ end = none_left levels file at end a in
      ap {A = Result ℕ ℕ} broke (cond-false (ltb at end) _ _ (le-ltb at end (omega arith))) ∙ ap {B = Option ℕ} Some (sym e)
  link_some each tags inner w at (more t ts) a =
      ap {A = Result ℕ ℕ} broke (cond-true (ltb at end) _ _ (lt-ltb at end (omega (arith, first_fits levels file at end t ts a))))
      ∙ link_list each tags inner w at (more t ts) a

  -- an entry of any contents
  by_allowed : (b : Bool) (e : Span) (at : ℕ) → broke (cond b (Ok e) (Err at)) ≡ cond b None (Some at)
  by_allowed true e at = refl
  by_allowed false e at = refl

  pub each_any : (tags : Tags) → ((tag : ℕ) → tags tag ≡ true) → Each any_of tags free
  each_any tags all = record {
    breaks = λ at t ts a. ap {A = Result Span ℕ} broke (first_read levels file at end t ts a) ∙ sym (cond-true (tags (tag_of t)) None (Some at) (all (tag_of t)));
    stops = λ at t ts e a q. first_stop levels file at end t ts a e q;
  }

  -- a field that may be there, with what is read inside it
  with_field : {X Y : Type 0} (b : Bool) (e : Span) (inside : Span → Result Y ℕ) (k : Option Span → Option Y → Result X ℕ) (within later absent : Option ℕ) →
      (b ≡ true → broke (inside e) ≡ within) → ((y : Y) → inside e ≡ Ok y → broke (k (Some e) (Some y)) ≡ later) → broke (k None None) ≡ absent →
      broke (maybe_of inside (cond b (Some e) None) >>= k (cond b (Some e) None)) ≡ cond b (or_else within later) absent
  with_field true e inside k within later absent f g h =
      ap {A = Result _ ℕ} broke (then_then (inside e) _ (k (Some e))) ∙ link_then (inside e) _ within later (f refl) g
  with_field false e inside k within later absent f g h = h

  pub link_optional : {X Y : Type 0} (tag : ℕ) (inner next : Rule) (inside : Span → Result Y ℕ) (k : Option Span → Option Y → Result X ℕ) (at : ℕ) (ts : Forest) → At levels file at end ts →
      ((t : Tree) (ts' : Forest) → At levels file at end (more t ts') → tag_of t ≡ tag → broke (inside (located at t)) ≡ inner (at + head_size t) (parts_of t)) →
      ((o : Option Span) (y : Option Y) (ts' : Forest) → maybe_of inside o ≡ Ok y → At levels file (behind span_stop at o) end ts' → broke (k o y) ≡ next (behind span_stop at o) ts') →
      broke (maybe_of inside (optional_of tag file at end) >>= k (optional_of tag file at end)) ≡ optional (is tag) inner next at ts
  link_optional tag inner next inside k at none a f g =
      ap (λ (r : Result Span ℕ). broke (maybe_of inside (if_tagged tag r) >>= k (if_tagged tag r))) (none_read levels file at end a) ∙ g None None none refl a
  link_optional tag inner next inside k at (more t ts) a f g =
      ap (λ (r : Result Span ℕ). broke (maybe_of inside (if_tagged tag r) >>= k (if_tagged tag r))) (first_read levels file at end t ts a)
      ∙ with_field (eqb (tag_of t) tag) (located at t) inside k _ _ _ (λ b. f t ts a (eqb-true (tag_of t) tag b))
      (λ y q. g (Some (located at t)) (Some y) ts (then_ok (inside (located at t)) y _ (sym q)) (rest_at levels file at end t ts a))
      (g None None (more t ts) refl a)

  pub maybe_stop : {Y : Type 0} (inside : Span → Result Y ℕ) (stop : Y → ℕ) (at : ℕ) → ((e : Span) (y : Y) → inside e ≡ Ok y → stop y ≡ e.end) →
      (o : Option Span) (y : Option Y) → maybe_of inside o ≡ Ok y → behind stop at y ≡ behind span_stop at o
  maybe_stop inside stop at s None y q = ap (behind stop at) (sym (ok_same q))
  maybe_stop inside stop at s (Some e) y q =
      let (z, q₁, k₁) = then_from (inside e) (λ z. Ok (Some z)) y q in
      ap (behind stop at) (sym (ok_same k₁)) ∙ s e z q₁

  -- the same, where what is read says where it ends
  pub link_maybe : {X Y : Type 0} (tag : ℕ) (inner next : Rule) (inside : Span → Result Y ℕ) (stop : Y → ℕ) (k : Option Y → Result X ℕ) (at : ℕ) (ts : Forest) → At levels file at end ts →
      ((e : Span) (y : Y) → inside e ≡ Ok y → stop y ≡ e.end) →
      ((t : Tree) (ts' : Forest) → At levels file at end (more t ts') → tag_of t ≡ tag → broke (inside (located at t)) ≡ inner (at + head_size t) (parts_of t)) →
      ((o : Option Y) (ts' : Forest) → At levels file (behind stop at o) end ts' → broke (k o) ≡ next (behind stop at o) ts') →
      broke (maybe_of inside (optional_of tag file at end) >>= k) ≡ optional (is tag) inner next at ts
  link_maybe tag inner next inside stop k at ts a s f g =
      link_optional tag inner next inside (λ _. k) at ts a f (λ o y ts' q a'.
      let e : behind stop at y ≡ behind span_stop at o = maybe_stop inside stop at s o y q in
      g y ts' (subst (λ (p : ℕ). At levels file p end ts') (sym e) a') ∙ ap (λ (p : ℕ). next p ts') e)

  -- an element that is read with its contents
  pub link_record : {X Y : Type 0} (tag : ℕ) (inner next : Rule) (inside : Span → Result Y ℕ) (stop : Y → ℕ) (k : Y → Result X ℕ) (at : ℕ) (ts : Forest) → At levels file at end ts →
      ((e : Span) (y : Y) → inside e ≡ Ok y → stop y ≡ e.end) →
      ((t : Tree) (ts' : Forest) → At levels file at end (more t ts') → tag_of t ≡ tag → broke (inside (located at t)) ≡ inner (at + head_size t) (parts_of t)) →
      ((y : Y) (ts' : Forest) → At levels file (stop y) end ts' → broke (k y) ≡ next (stop y) ts') →
      broke ((expect_of tag file at end >>= inside) >>= k) ≡ field (is tag) inner next at ts
  link_record tag inner next inside stop k at ts a s f g =
      ap {A = Result _ ℕ} broke (then_then (expect_of tag file at end) inside k)
      ∙ link_field tag inner next (λ e. inside e >>= k) at ts a (λ t ts' a' e. link_then _ _ _ _ (f t ts' a' e) (λ y q.
      let z : stop y ≡ at + head_size t + body_size t = s (located at t) y q in
      g y ts' (subst (λ (p : ℕ). At levels file p end ts') (sym z) (rest_at levels file at end t ts' a')) ∙ ap (λ (p : ℕ). next p ts') z))

  -- an element whose contents decide what follows
  pub link_choose : {X : Type 0} (tag : ℕ) (next : List ℕ → Option Rule) (k : Span → Result X ℕ) (at : ℕ) (ts : Forest) → At levels file at end ts →
      ((t : Tree) (ts' : Forest) → At levels file at end (more t ts') → tag_of t ≡ tag → broke (k (located at t)) ≡ follow (next (body_of t)) at (at + head_size t + body_size t) ts') →
      broke (expect_of tag file at end >>= k) ≡ choose tag next at ts
  link_choose tag next k at none a f = ap (λ (r : Result Span ℕ). broke ((r >>= tagged at (is tag)) >>= k)) (none_read levels file at end a)
  link_choose tag next k at (more t ts) a f =
      ap (λ (r : Result Span ℕ). broke ((r >>= tagged at (is tag)) >>= k)) (first_read levels file at end t ts a)
      ∙ by_tag (eqb (tag_of t) tag) (located at t) at k _ (λ b. f t ts a (eqb-true (tag_of t) tag b))

  -- an element of one byte that decides
  by_byte : {X : Type 0} (next : List ℕ → Option Rule) (k : Number → Result X ℕ) (e : Span) (at p : ℕ) (ts : Forest) (body : List ℕ) →
      ((body : List ℕ) → (length body ≡ 1 → ⊥) → next body ≡ None) →
      ((v : ℕ) → body ≡ v ∷ [] → broke (k (record { element = e; value = v })) ≡ follow (next (v ∷ [])) at p ts) →
      broke (byte_in at e body >>= k) ≡ follow (next body) at p ts
  by_byte next k e at p ts [] other this = ap (λ (o : Option Rule). follow o at p ts) (sym (other [] (λ l. omega arith)))
  by_byte next k e at p ts (v ∷ []) other this = this v refl
  by_byte next k e at p ts (v ∷ w ∷ ws) other this = ap (λ (o : Option Rule). follow o at p ts) (sym (other (v ∷ w ∷ ws) (λ l. omega arith)))

  pub link_number : {X : Type 0} (next : List ℕ → Option Rule) (k : Number → Result X ℕ) (at : ℕ) (ts : Forest) → At levels file at end ts →
      ((body : List ℕ) → (length body ≡ 1 → ⊥) → next body ≡ None) →
      ((t : Tree) (ts' : Forest) → At levels file at end (more t ts') → (v : ℕ) → body_of t ≡ v ∷ [] →
      broke (k (record { element = located at t; value = v })) ≡ follow (next (v ∷ [])) at (at + head_size t + body_size t) ts') →
      broke (number_of file at end >>= k) ≡ choose 2 next at ts
  link_number next k at ts a other this =
      ap {A = Result _ ℕ} broke (then_then (expect_of 2 file at end) (λ e. byte_in at e (contents_at file e)) k)
      ∙ link_choose 2 next (λ e. byte_in at e (contents_at file e) >>= k) at ts a (λ t ts' a' e.
      ap (λ (b : List ℕ). broke (byte_in at (located at t) b >>= k)) (first_body levels file at end t ts' a')
      ∙ by_byte next k (located at t) at _ ts' (body_of t) other (this t ts' a'))

  -- an identifier that decides
  by_name : {X : Type 0} (b : Bool) (e : Span) (at p : ℕ) (ts : Forest) (k : Span → Result X ℕ) (rule : Rule) → broke (k e) ≡ rule p ts →
      broke (cond b (Ok e) (Err at) >>= k) ≡ follow (cond b (Some rule) None) at p ts
  by_name true e at p ts k rule f = f
  by_name false e at p ts k rule f = refl

  pub link_named : {X : Type 0} (name : List ℕ) (rule : Rule) (k : Span → Result X ℕ) (at : ℕ) (ts : Forest) → At levels file at end ts →
      ((t : Tree) (ts' : Forest) → At levels file at end (more t ts') → broke (k (located at t)) ≡ rule (at + head_size t + body_size t) ts') →
      broke (named_of name file at end >>= k) ≡ choose 6 (λ body. cond (bytes_eq body name) (Some rule) None) at ts
  link_named name rule k at ts a f =
      ap {A = Result _ ℕ} broke (then_then (expect_of 6 file at end) (same_as name file at) k)
      ∙ link_choose 6 (λ body. cond (bytes_eq body name) (Some rule) None) (λ e. same_as name file at e >>= k) at ts a (λ t ts' a' e.
      ap (λ (b : List ℕ). broke (cond (bytes_eq b name) (Ok (located at t)) (Err at) >>= k)) (first_body levels file at end t ts' a')
      ∙ by_name (bytes_eq (body_of t) name) (located at t) at _ ts' k rule (f t ts' a'))

pub each_allowed : (levels : ℕ) (file : List ℕ) (end : ℕ) (tags : Tags) → Each levels file end (allowed_of tags) tags free
each_allowed levels file end tags = record {
  breaks = λ at t ts a. ap (λ (r : Result Span ℕ). broke (r >>= tagged at tags)) (first_read levels file at end t ts a) ∙ by_allowed levels file end (tags (tag_of t)) (located at t) at;
  stops = λ at t ts e a q. first_stop levels file at end t ts a e (allowed_found tags file at end e q).0;
}

-- an entry that is one element tagged 30, with a rule for its contents
pub each_record : {X : Type 0} (levels : ℕ) (file : List ℕ) (end : ℕ) (inside : List ℕ → Span → Result X ℕ) (whole : X → Span) (inner : Rule) →
    ((e : Span) (x : X) → inside file e ≡ Ok x → whole x ≡ e) →
    ((e : Span) (ts : Forest) → At (levels - 1) file e.body e.end ts → broke (inside file e) ≡ inner e.body ts) →
    Each levels file end (λ file at end. (expect_of 0x30 file at end >>= inside file) >>= (λ x. Ok (whole x))) (is 0x30) inner
each_record levels file end inside whole inner same link = record {
  breaks = λ at t ts a.
      link_end (expect_of 0x30 file at end >>= inside file) whole
      ∙ link_field levels file end 0x30 inner free (inside file) at (more t ts) a (λ t' ts' a' e.
      link (located at t') (parts_of t') (inside_at levels file at end t' ts' a' 0x30 e seq) ∙ sym (or_none _))
      ∙ ap (λ (o : Option ℕ). cond (is 0x30 (tag_of t)) o (Some at)) (or_none _);
  stops = λ at t ts e a q.
      let (x, q₁, k₁) = then_from (expect_of 0x30 file at end >>= inside file) (λ x. Ok (whole x)) e q in
      let (s, q₂, k₂) = then_from (expect_of 0x30 file at end) (inside file) x q₁ in
      ap (λ (y : Span). y.end) (sym (ok_same k₁) ∙ same s x k₂) ∙ first_stop levels file at end t ts a s (allowed_found (is 0x30) file at end s q₂).0;
}

pub entries_stop_lem : (counted : List ℕ → ℕ → ℕ → Result ℕ ℕ) (file : List ℕ) (e : Span) (y : Entries) → entries_in counted file e ≡ Ok y → y.field.end ≡ e.end
entries_stop_lem counted file e y q =
    let (n, q₁, k₁) = then_from (counted file e.body e.end) (λ count. Ok (record { field = e; count = count })) y q in
    ap (λ (x : Entries). x.field.end) (sym (ok_same k₁))

-- a flag that decides
pub by_flag : {X : Type 0} (b : Bool) (place p : ℕ) (ts : Forest) (k : Unit {0} → Result X ℕ) (rule : Rule) → broke (k tt) ≡ rule p ts →
    broke (cond b (Ok tt) (Err place) >>= k) ≡ follow (cond b (Some rule) None) place p ts
by_flag true place p ts k rule f = f
by_flag false place p ts k rule f = refl

-- a field that holds a list
module _ (each : Reading) (tags : Tags) (inner : Rule) (levels : ℕ) (file : List ℕ) (w : (stop : ℕ) → Each (levels - 1) file stop each tags inner) (at end : ℕ) (t : Tree) (ts : Forest)
    (a : At levels file at end (more t ts)) (tag : ℕ) (e : tag_of t ≡ tag) (k : Constructed tag) where
  pub link_list_entries : broke (entries_in (list_of each) file (located at t)) ≡ list tags inner (at + head_size t) (parts_of t)
  link_list_entries = link_end _ _ ∙ link_list (levels - 1) file _ each tags inner (w _) _ _ (inside_at levels file at end t ts a tag e k)

  pub link_some_entries : broke (entries_in (some_of each) file (located at t)) ≡ some tags inner (at + head_size t) (parts_of t)
  link_some_entries = link_end _ _ ∙ link_some (levels - 1) file _ each tags inner (w _) _ _ (inside_at levels file at end t ts a tag e k)
