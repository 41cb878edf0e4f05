-- The reading of an algorithm breaks off where its rule breaks, and what it gives lies where the tree says.
use Rattle.std.proofs.Common.{◌≡◌, ℕ, ◌+◌, ◌-◌, Bool, true, false, cond, ◌&&◌, eqb, ltb, List, is_some, Some, None, Ok, Option, Result, sym, refl, ap, ◌∙◌, arith}
use Rattle.std.proofs.lemmas.Bool.{cond-true, cond-false, cond_both, eqb-true, eqb-false, lt-ltb, le-ltb}
use Rattle.der.specs.declared.span.Span.{Span}
use Rattle.der.specs.Trees.{Forest, none, more, tag_of}
use Rattle.fields.specs.Reads.{◌>>=◌, is, if_tagged, expect_of, finish_of, maybe_of, behind, span_stop, broke}
use Rattle.fields.specs.Placed.{located, span_of, placed_from, nth, mapped}
use Rattle.fields.specs.Rules.{parts_of, head_size, body_size, nothing, free, field}
use Rattle.fields.proofs.Steps.{Gives, gives_ok, gives_err, gives_then}
use Rattle.fields.proofs.Tags.{seq}
use Rattle.fields.proofs.Standing.{At, none_read, first_read, rest_at, inside_at}
use Rattle.fields.proofs.Links.{or_none, link_end, link_field, link_nothing}
use Rattle.fields.proofs.Places.{lie_check, lie_field, lie_maybe}
use Rattle.cms.proofs.Served.{served}
use Rattle.index.specs.declared.located.AlgorithmParts.{AlgorithmParts}
use Rattle.index.specs.Records.{empty_in, null_of, algorithm_in, algorithm_of}
use Rattle.index.specs.Grammar.{parameters, algorithm}
use Rattle.index.specs.Places.{algorithm_from, algorithm_at}

-- parameters that end where they should
module _ {X : Type 0} (levels : ℕ) (file : List ℕ) (end : ℕ) (f : Option Span → X) where
  abbrev ended : ℕ → Option Span → Result X ℕ
  ended at null = finish_of (behind span_stop at null) end >>= (λ _. Ok (f null))

  pub link_parameters : (at : ℕ) (ts : Forest) → At levels file at end ts → broke (null_of file at end >>= ended at) ≡ parameters at ts
  link_parameters at none a =
      ap (λ (r : Result Span ℕ). broke (maybe_of empty_in (if_tagged 5 r) >>= ended at)) (none_read levels file at end a)
      ∙ link_end _ _ ∙ link_nothing levels file end at none a
  link_parameters at (more t ts) a =
      ap (λ (r : Result Span ℕ). broke (maybe_of empty_in (if_tagged 5 r) >>= ended at)) (first_read levels file at end t ts a)
      ∙ by (eqb (tag_of t) 5) (eqb (body_size t) 0) refl
    where
      by : (b c : Bool) → eqb (body_size t) 0 ≡ c →
          broke (maybe_of empty_in (cond b (Some (located at t)) None) >>= ended at) ≡ cond (b && c) (nothing (at + head_size t + body_size t) ts) (Some at)
      by true true q =
          let z : body_size t ≡ 0 = eqb-true (body_size t) 0 q in
          ap (λ (r : Result Span ℕ). broke ((r >>= (λ y. Ok (Some y))) >>= ended at)) (cond-false (ltb (at + head_size t) (at + head_size t + body_size t)) _ _ (le-ltb _ _ (omega arith)))
          ∙ link_end _ _ ∙ link_nothing levels file end _ ts (rest_at levels file at end t ts a)
      by true false q =
          let z : body_size t ≡ 0 → ⊥ = eqb-false (body_size t) 0 q in
          ap (λ (r : Result Span ℕ). broke ((r >>= (λ y. Ok (Some y))) >>= ended at)) (cond-true (ltb (at + head_size t) (at + head_size t + body_size t)) _ _ (lt-ltb _ _ (omega arith)))
      by false c q = link_end _ _ ∙ link_nothing levels file end at (more t ts) a

-- the contents of an algorithm
pub link_algorithm : (levels : ℕ) (file : List ℕ) (whole : Span) (ts : Forest) → At levels file whole.body whole.end ts →
    broke (algorithm_in file whole) ≡ algorithm whole.body ts
link_algorithm levels file whole ts a =
    link_field levels file whole.end 6 free parameters _ whole.body ts a (λ t₁ ts₁ a₁ e₁.
    link_parameters levels file whole.end _ _ ts₁ (rest_at levels file _ _ t₁ ts₁ a₁))

-- the algorithm that stands first
pub link_algorithm_of : (levels : ℕ) (file : List ℕ) (at end : ℕ) (ts : Forest) → At levels file at end ts → broke (algorithm_of file at end) ≡ field (is 0x30) algorithm free at ts
link_algorithm_of levels file at end ts a =
    link_field levels file end 0x30 algorithm free (algorithm_in file) at ts a (λ t₁ ts₁ a₁ e₁.
    link_algorithm (levels - 1) file (located at t₁) (parts_of t₁) (inside_at levels file at end t₁ ts₁ a₁ 0x30 e₁ seq) ∙ sym (or_none _))

empty_is : (e : Span) → Gives (λ y. y ≡ e) (empty_in e)
empty_is e = cond_both (ltb e.body e.end) _ _ (Gives (λ y. y ≡ e)) (λ _. gives_err _ _) (λ _. gives_ok _ _ refl)

some_mapped : {X Y : Type 0} (f : X → Y) (o : Option X) → is_some (mapped f o) ≡ is_some o
some_mapped f None = refl
some_mapped f (Some x) = refl

with_null : (whole name : Span) (b c : Bool) → b ≡ c → ◌≡◌ {A = AlgorithmParts} (record { whole = whole; name = name; null = b }) (record { whole = whole; name = name; null = c })
with_null whole name b c q i = record { whole = whole; name = name; null = q i }

-- the record of an algorithm lies in the element `whole`
abbrev pub AlgorithmLies : Span → Forest → AlgorithmParts → Type 0
AlgorithmLies whole ts a = a ≡ algorithm_from whole (placed_from whole.body ts)

pub algorithm_lies : (levels : ℕ) (file : List ℕ) (whole : Span) (ts : Forest) → At levels file whole.body whole.end ts → Gives (AlgorithmLies whole ts) (algorithm_in file whole)
algorithm_lies levels file whole ts a =
    lie_field levels file whole.end 6 (AlgorithmLies whole) _ _ ts a (λ t₁ ts₁ a₁ e₁.
    lie_maybe levels file whole.end 5 span_of (AlgorithmLies whole (more t₁ ts₁)) empty_in span_stop _ _ ts₁ (rest_at levels file _ _ t₁ ts₁ a₁)
    (λ e y q. ap (λ (x : Span). x.end) ((empty_is e).holds y q))
    (λ t₂ ts₂ a₂ e₂. empty_is (located _ t₂))
    (λ y ts₂ q _ _. lie_check _ _ _ (with_null _ _ _ _ (ap is_some q ∙ some_mapped span_of _))))

pub algorithm_of_lies : (levels : ℕ) (file : List ℕ) (at end : ℕ) (ts : Forest) → At levels file at end ts → Gives (λ a. a ≡ algorithm_at (nth 0 (placed_from at ts))) (algorithm_of file at end)
algorithm_of_lies levels file at end ts a =
    lie_field levels file end 0x30 (λ us x. x ≡ algorithm_at (nth 0 (placed_from at us))) (algorithm_in file) at ts a (λ t₁ ts₁ a₁ e₁.
    algorithm_lies (levels - 1) file (located at t₁) (parts_of t₁) (inside_at levels file at end t₁ ts₁ a₁ 0x30 e₁ seq))

-- an algorithm with no break is read
pub algorithm_served : (levels : ℕ) (file : List ℕ) (at end : ℕ) (ts : Forest) → At levels file at end ts → field (is 0x30) algorithm free at ts ≡ None →
    algorithm_of file at end ≡ Ok (algorithm_at (nth 0 (placed_from at ts)))
algorithm_served levels file at end ts a e = served _ _ (link_algorithm_of levels file at end ts a ∙ e) (algorithm_of_lies levels file at end ts a)

-- what a reading that gives an algorithm has passed
pub record AlgorithmRead (file : List ℕ) (whole : Span) (a : AlgorithmParts) : Type 0 where
  pub same : a.whole ≡ whole
  pub name : expect_of 6 file whole.body whole.end ≡ Ok a.name
  pub found : Option Span
  pub null : null_of file a.name.end whole.end ≡ Ok found
  pub null_is : a.null ≡ is_some found
  pub done : finish_of (behind span_stop a.name.end found) whole.end ≡ Ok tt

pub algorithm_read : (file : List ℕ) (whole : Span) → Gives (AlgorithmRead file whole) (algorithm_in file whole)
algorithm_read file whole =
    gives_then _ _ _ (λ name q₁. gives_then _ _ _ (λ found q₂. gives_then _ _ _ (λ _ q₃. gives_ok _ _ (record {
      same = refl;
      name = q₁;
      found = found;
      null = q₂;
      null_is = refl;
      done = q₃;
    }))))

-- it ends where its element ends
pub algorithm_stop_lem : (file : List ℕ) (e : Span) (y : AlgorithmParts) → algorithm_in file e ≡ Ok y → y.whole.end ≡ e.end
algorithm_stop_lem file e y q = ap (λ (x : Span). x.end) ((algorithm_read file e).holds y q).same
