-- The steps of a reading.
use Rattle.std.proofs.Common.{◌≡◌, ℕ, Bool, true, List, IfOk, Ok, Err, Result, sym, refl, ap, ◌∙◌, subst, arith}
use Rattle.std.proofs.lemmas.Bool.{cond_both}
use Rattle.std.proofs.lemmas.Result.{MatchResult-at_ok}
use Rattle.der.specs.declared.span.Span.{Span}
use Rattle.fields.specs.Reads.{◌>>=◌, any_of, tagged, allowed_of}

pub then_ok : {X Y E : Type 0} (r : Result X E) (x : X) (k : X → Result Y E) → Ok x ≡ r → (r >>= k) ≡ k x
then_ok r x k e = ap (λ (s : _). s >>= k) (sym e)

pub then_err : {X Y E : Type 0} (r : Result X E) (f : E) (k : X → Result Y E) → Err f ≡ r → (r >>= k) ≡ Err f
then_err r f k e = ap (λ (s : _). s >>= k) (sym e)

pub then_same : {X Y E : Type 0} (r : Result X E) (k l : X → Result Y E) → ((x : X) → r ≡ Ok x → k x ≡ l x) → (r >>= k) ≡ (r >>= l)
then_same (Ok x) k l f = f x refl
then_same (Err e) k l f = refl

-- a reading that gives something has passed its first step
pub then_from : {X Y E : Type 0} (r : Result X E) (k : X → Result Y E) (y : Y) → (r >>= k) ≡ Ok y → (x : X) × (r ≡ Ok x) × (k x ≡ Ok y)
then_from (Ok x) k y e = (x, refl, e)
then_from (Err f) k y e = absurd (let z : ◌≡◌ {A = ℕ} 0 1 = cc in omega arith)

pub ok_same : {X E : Type 0} {x y : X} → ◌≡◌ {A = Result X E} (Ok x) (Ok y) → x ≡ y
ok_same e = cc

-- what holds of whatever a reading gives. A record, so that antt finds the steps by the reading's form
pub record Gives {X : Type 0} (P : X → Type 0) (r : Result X ℕ) : Type 0 where
  pub holds : (x : X) → r ≡ Ok x → P x

pub gives_then : {X Y : Type 0} (P : Y → Type 0) (r : Result X ℕ) (k : X → Result Y ℕ) → ((x : X) → r ≡ Ok x → Gives P (k x)) → Gives P (r >>= k)
gives_then P (Ok x) k f = f x refl
gives_then P (Err e) k f = record { holds = λ y q. absurd (let z : ◌≡◌ {A = ℕ} 0 1 = cc in omega arith) }

pub gives_ok : {X : Type 0} (P : X → Type 0) (x : X) → P x → Gives P (Ok x)
gives_ok P x p = record { holds = λ y q. subst P (ok_same q) p }

pub then_then : {X Y Z : Type 0} (r : Result X ℕ) (k : X → Result Y ℕ) (l : Y → Result Z ℕ) → ((r >>= k) >>= l) ≡ (r >>= (λ x. k x >>= l))
then_then (Ok x) k l = refl
then_then (Err e) k l = refl

-- an element that is found is there, and has such a tag
pub allowed_found : (tags : ℕ → Bool) (file : List ℕ) (at end : ℕ) (e : Span) → allowed_of tags file at end ≡ Ok e → (any_of file at end ≡ Ok e) × (tags e.tag ≡ true)
allowed_found tags file at end e q =
    let (x, there, k) = then_from (any_of file at end) (tagged at tags) e q in
    let p : (x ≡ e) × (tags e.tag ≡ true) =
    MatchResult-at_ok (λ y. (x ≡ y) × (tags y.tag ≡ true)) (λ _. Unit {0}) e k
    (cond_both (tags x.tag) _ _ (λ r. IfOk r (λ y. (x ≡ y) × (tags y.tag ≡ true))) (λ t. (refl, t)) (λ _. tt)) in
    (there ∙ ap {B = Result Span ℕ} Ok p.0, p.1)

pub gives_err : {X : Type 0} (P : X → Type 0) (p : ℕ) → Gives P (Err p)
gives_err P p = record { holds = λ y q. absurd (let z : ◌≡◌ {A = ℕ} 0 1 = cc in omega arith) }

pub gives_weaker : {X : Type 0} (P Q : X → Type 0) (r : Result X ℕ) → ((x : X) → P x → Q x) → Gives P r → Gives Q r
gives_weaker P Q r f g = record { holds = λ x q. f x (g.holds x q) }

pub gives_cases : {X : Type 0} (P : X → Type 0) (r r' : Result X ℕ) → r ≡ r' → Gives P r' → IfOk r P
gives_cases P (Ok x) r' q g = g.holds x (sym q)
gives_cases P (Err p) r' q g = tt
