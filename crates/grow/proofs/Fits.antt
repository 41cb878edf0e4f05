-- What an answer says of the length of a file.
use Rattle.std.proofs.Common.{◌≡◌, ℕ, ◌<◌, ◌≤◌, leb, Ok, Err, Result, sym, ap, ◌∙◌, arith}
use Rattle.std.proofs.lemmas.Bool.{cond_both, cond-true, cond-false, le-leb, lt-leb, leb-true, leb-false}
use Rattle.grow.specs.declared.full.Full.{Full}
use Rattle.grow.specs.declared.full.Full.TheVariants.{TooLong, NoRoom}
use Rattle.grow.specs.Changes.{short, fitting}

ok_not_err : (n : ℕ) (e : Full) → ◌≡◌ {A = Result ℕ Full} (Ok n) (Err e) → ⊥
ok_not_err n e p = let z : ◌≡◌ {A = ℕ} 0 1 = cc in omega arith

same_ok : (m n : ℕ) → ◌≡◌ {A = Result ℕ Full} (Ok m) (Ok n) → m ≡ n
same_ok m n p = cc

same_err : (d e : Full) → ◌≡◌ {A = Result ℕ Full} (Err d) (Err e) → d ≡ e
same_err d e p = cc

pub short_over : (n : ℕ) → 65535 < n → Err TooLong ≡ short n
short_over n l = sym (cond-false (leb n 65535) _ _ (lt-leb n 65535 l))

pub short_is : (m n : ℕ) → Ok m ≡ short n → (m ≡ n) × (n ≤ 65535)
short_is m n q =
    cond_both (leb n 65535) (Ok n) (Err TooLong) (λ r. Ok m ≡ r → (m ≡ n) × (n ≤ 65535))
    (λ t p. (same_ok m n p, leb-true n 65535 t))
    (λ t p. absurd (ok_not_err m TooLong p)) q

pub short_not : (e : Full) (n : ℕ) → Err e ≡ short n → (e ≡ TooLong) × (65535 < n)
short_not e n q =
    cond_both (leb n 65535) (Ok n) (Err TooLong) (λ r. Err e ≡ r → (e ≡ TooLong) × (65535 < n))
    (λ t p. absurd (ok_not_err n e (sym p)))
    (λ t p. (same_err e TooLong p, leb-false n 65535 t)) q

pub too_long : (room n : ℕ) → 65535 < n → Err TooLong ≡ fitting room n
too_long room n l = sym (cond-false (leb n 65535) _ _ (lt-leb n 65535 l))

pub no_room : (room n : ℕ) → n ≤ 65535 → room < n → Err NoRoom ≡ fitting room n
no_room room n l m = sym (cond-true (leb n 65535) _ _ (le-leb n 65535 l) ∙ cond-false (leb n room) _ _ (lt-leb n room m))

pub fits : (room m n : ℕ) → m ≡ n → n ≤ 65535 → n ≤ room → Ok m ≡ fitting room n
fits room m n e l k =
    ap {B = Result ℕ Full} Ok e
    ∙ sym (cond-true (leb n 65535) _ _ (le-leb n 65535 l) ∙ cond-true (leb n room) _ _ (le-leb n room k))

pub fitting_is : (room m n : ℕ) → Ok m ≡ fitting room n → (m ≡ n) × (n ≤ 65535) × (n ≤ room)
fitting_is room m n q =
    cond_both (leb n 65535) _ (Err TooLong) (λ r. Ok m ≡ r → (m ≡ n) × (n ≤ 65535) × (n ≤ room))
    (λ t. cond_both (leb n room) (Ok n) (Err NoRoom) (λ r. Ok m ≡ r → (m ≡ n) × (n ≤ 65535) × (n ≤ room))
    (λ s p. (same_ok m n p, leb-true n 65535 t, leb-true n room s))
    (λ s p. absurd (ok_not_err m NoRoom p)))
    (λ t p. absurd (ok_not_err m TooLong p)) q
