-- What a buffer holds once a gap is opened and filled.
use Rattle.std.proofs.Common.{◌≡◌, ℕ, ◌+◌, ◌-◌, ◌≤◌, List, ◌++◌, length, take, drop, sym, refl, ap, ◌∙◌, subst, arith}
use lib.Seq.{paste}
use Rattle.std.proofs.lemmas.Slice.{between_is}
use Rattle.std.proofs.lemmas.List.{append_assoc, take-append-le, take-append-drop, take-take, drop_at, take_at, length-take-le, length-append, length-drop}
use Rattle.areas.specs.Overlays.{overlay, Overlaid}
use Rattle.areas.proofs.Overlays.{overlay_more}
use Rattle.grow.specs.Splices.{Parted, Spliced}

-- a gap of no bytes
pub parted_none : (buffer : List ℕ) (n at size : ℕ) → at ≤ n → n ≤ length buffer → size ≡ 0 → Parted buffer buffer n at size
parted_none buffer n at size l m z =
    let A : List ℕ = take n buffer in
    let len : length A ≡ n = length-take-le n buffer m in
    let cut : drop at (A ++ drop n buffer) ≡ drop at A ++ drop n buffer =
    ap (λ (x : List ℕ). drop at (x ++ drop n buffer)) (sym (take-append-drop at A))
    ∙ ap (drop at) (append_assoc (take at A) (drop at A) (drop n buffer))
    ∙ drop_at (take at A) (drop at A ++ drop n buffer) at (length-take-le at A (omega (arith, len))) in
    let here : at + size ≡ at = omega arith in
    let there : n ≡ n + size = omega arith in
    record {
      front = refl;
      back =
          ap (λ (x : ℕ). drop x buffer) here ∙ ap (drop at) (sym (take-append-drop n buffer)) ∙ cut
          ∙ ap (λ (x : ℕ). drop at A ++ drop x buffer) there;
    }

-- what stood from `at` on was copied to the right
pub parted : (buffer mid : List ℕ) (n at size : ℕ) → at ≤ n → n + size ≤ length buffer → mid ≡ paste buffer (at + size) (drop at buffer) (n - at) →
    Parted buffer mid n at size
parted buffer mid n at size l m e =
    let A : List ℕ = take (at + size) buffer in
    let T : List ℕ = take (n - at) (drop at buffer) in
    let D : List ℕ = drop (at + size + (n - at)) buffer in
    let len : length A ≡ at + size = length-take-le (at + size) buffer (omega arith) in
    let whole : mid ≡ A ++ (T ++ D) = e ∙ append_assoc A T D in
    let end : at + size + (n - at) ≡ n + size = omega arith in
    record {
      front = ap (take at) whole ∙ take-append-le at A (T ++ D) (omega (arith, len)) ∙ take-take at (at + size) buffer (omega arith);
      back =
          ap (drop (at + size)) whole ∙ drop_at A (T ++ D) (at + size) len
          ∙ ap (λ (x : List ℕ). x ++ D) (between_is buffer at n) ∙ ap (λ (x : ℕ). drop at (take n buffer) ++ drop x buffer) end;
    }

-- a gap behind `old` bytes, and then `new` over both
pub filled : (was mid is : List ℕ) (n at old : ℕ) (new : List ℕ) → at + old ≤ n → old ≤ length new → n ≤ length was →
    Parted was mid n (at + old) (length new - old) → is ≡ overlay at new mid → Spliced was is n at old new
filled was mid is n at old new l g m p e =
    let k : ℕ = length new - old in
    let A : List ℕ = take at was in
    let T : List ℕ = drop (at + old) (take n was) in
    let D : List ℕ = drop (n + k) was in
    let front : take at mid ≡ A =
    sym (take-take at (at + old) mid (omega arith)) ∙ ap (take at) p.front ∙ take-take at (at + old) was (omega arith) in
    let sum : at + length new ≡ at + old + k = omega arith in
    let back : drop (at + length new) mid ≡ T ++ D = ap (λ (x : ℕ). drop x mid) sum ∙ p.back in
    let whole : is ≡ (A ++ (new ++ T)) ++ D =
    e ∙ ap (λ (x : List ℕ). x ++ (new ++ drop (at + length new) mid)) front ∙ ap (λ (x : List ℕ). A ++ (new ++ x)) back
    ∙ ap (λ (x : List ℕ). A ++ x) (sym (append_assoc new T D)) ∙ sym (append_assoc A (new ++ T) D) in
    let size : length (A ++ (new ++ T)) ≡ n + k =
    omega (arith, length-append A (new ++ T), length-append new T, length-take-le at was (omega arith), length-drop (at + old) (take n was), length-take-le n was m) in
    record {
      file = ap (take (n + k)) whole ∙ take_at (A ++ (new ++ T)) D (n + k) size;
      behind = ap (drop (n + k)) whole ∙ drop_at (A ++ (new ++ T)) D (n + k) size;
    }

-- the same where nothing is replaced
pub filled_gap : (was mid is : List ℕ) (n at size : ℕ) (new : List ℕ) → at ≤ n → n ≤ length was → length new ≡ size →
    Parted was mid n at size → is ≡ overlay at new mid → Spliced was is n at 0 new
filled_gap was mid is n at size new l m e p q =
    let here : at ≡ at + 0 = omega arith in
    let there : size ≡ length new - 0 = omega arith in
    filled was mid is n at 0 new (omega arith) (omega arith) m
    (subst (λ (x : ℕ). Parted was mid n x (length new - 0)) here (subst (λ (x : ℕ). Parted was mid n at x) there p)) q

-- a gap that is filled by one part and another behind it
pub filled_both : (was gap mid is : List ℕ) (n at behind size : ℕ) (a b : List ℕ) → at ≤ n → n ≤ length was → n ≤ length gap → size ≡ length (a ++ b) →
    Parted was gap n at size → behind ≡ at + length a → mid ≡ overlay at a gap → is ≡ overlay behind b mid → Spliced was is n at 0 (a ++ b)
filled_both was gap mid is n at behind size a b l m k e p h p1 p2 =
    filled_gap was gap is n at size (a ++ b) l m (sym e) p
    (p2 ∙ ap (overlay behind b) p1 ∙ ap (λ (x : ℕ). overlay x b (overlay at a gap)) h ∙ overlay_more at a b gap (omega arith))

-- the same where both were put into an area that holds them
pub filled_by_two : (was gap mid is : List ℕ) (n at behind end size : ℕ) (a b : List ℕ) → at ≤ n → n ≤ length was → n + size ≤ length gap → length mid ≡ length gap →
    size ≡ length (a ++ b) → Parted was gap n at size → Overlaid gap mid at a behind → Overlaid mid is behind b end → Spliced was is n at 0 (a ++ b)
filled_by_two was gap mid is n at behind end size a b l m k same e p put1 put2 =
    let sum = length-append a b in
    let (h, p1) = put1.fits (omega (arith, sum)) in
    let (_, p2) = put2.fits (omega (arith, sum, h)) in
    filled_both was gap mid is n at behind size a b l m (omega arith) e p h p1 p2
