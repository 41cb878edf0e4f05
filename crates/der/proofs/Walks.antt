-- The steps of the walk.
use Rattle.std.proofs.Common.{◌≡◌, ℕ, ◌+◌, ◌-◌, ◌<◌, ◌≤◌, Bool, true, false, eqb, List, ◌++◌, length, take, drop, Ok, sym, refl, ap, ◌∙◌, subst, add_assoc, arith}
use lib.Bits.{bit_and}
use Rattle.std.proofs.lemmas.List.{length-take-le, drop-drop, take-append-drop, length-drop, take_rest, drop_all}
use Rattle.std.proofs.lemmas.Result.{MatchResult-at_ok}
use Rattle.std.proofs.lemmas.Bool.{cond-true, cond-false, eq-eqb, eqb-true}
use Rattle.der.specs.declared.header.Header.{Header}
use Rattle.der.specs.declared.fault.Fault.{Fault}
use Rattle.der.specs.Bytes.{Bytes}
use Rattle.der.specs.Head.{header_of}
use Rattle.der.specs.Trees.{leaf, node, none, more, constructed, Constructed, Starts, Forms, framed, encodes}
use Rattle.der.specs.Faults.{contents, InElement, InForest, inside, first, later}
use Rattle.der.proofs.Frames.{Framed, all_framed}

pub framed_at : (bs : List ℕ) (h : Header) → Bytes bs → header_of bs ≡ Ok h → Framed bs h
framed_at bs h t e = MatchResult-at_ok (Framed bs) (λ _. Unit {0}) h e (all_framed bs t)

pub length_contents : (bs : List ℕ) (h : Header) → Framed bs h → length (contents h bs) ≡ h.size
length_contents bs h w = length-take-le h.size (drop h.head bs) (simp length-drop (omega (arith, w.within)))

pub leaf_starts : (levels : ℕ) (bs : List ℕ) (h : Header) → Bytes bs → 0 < levels → header_of bs ≡ Ok h →
    bit_and h.tag 32 ≡ 0 → Starts levels bs (h.head + h.size)
leaf_starts levels bs h t l e k =
    let w : Framed bs h = framed_at bs h t e in (
      leaf h.tag (contents h bs),
      (l, record { low = w.low; short = omega (arith, w.short, length_contents bs h w) }, k),
      sym w.written,
      w.within,
      omega (arith, w.least),
    )

pub node_starts : (levels : ℕ) (bs : List ℕ) (h : Header) → Bytes bs → 0 < levels → header_of bs ≡ Ok h →
    Constructed h.tag → Forms (levels - 1) (contents h bs) → Starts levels bs (h.head + h.size)
node_starts levels bs h t l e k (ts, v, q) =
    let w : Framed bs h = framed_at bs h t e in (
      node h.tag ts,
      (l, record { low = w.low; short = omega (arith, w.short, length_contents bs h w, ap length q) }, k, v),
      ap (λ (b : List ℕ). framed h.tag b) q ∙ sym w.written,
      w.within,
      omega (arith, w.least),
    )

pub starts_forms : (levels n : ℕ) (bs : List ℕ) → Starts levels bs n → Forms levels (drop n bs) → Forms levels bs
starts_forms levels n bs s f = (
  more s.0 f.0,
  (s.1, f.1),
  ap (λ (a : List ℕ). a ++ encodes f.0) s.2 ∙ ap (λ (b : List ℕ). take n bs ++ b) f.2 ∙ take-append-drop n bs,
)

-- the invariant of the walk, one element on
pub fault_on : (levels place at n : ℕ) (bs : List ℕ) (f : Fault) → Starts levels (drop at bs) n →
    (InForest levels (drop at bs) (place + at) f → InForest levels bs place f) →
    InForest levels (drop (at + n) bs) (place + (at + n)) f → InForest levels bs place f
fault_on levels place at n bs f s inv i =
    inv (later n s (rw (drop-drop, add_assoc) i))

pub forms_on : (levels at n : ℕ) (bs : List ℕ) → Starts levels (drop at bs) n →
    (Forms levels (drop at bs) → Forms levels bs) → Forms levels (drop (at + n) bs) → Forms levels bs
forms_on levels at n bs s inv f = inv (starts_forms levels n (drop at bs) s (rw drop-drop f))

cut : (a b : ℕ) → a + b - a ≡ b
cut a b = omega arith

-- `&bytes[head..head + size]`
part_is : (bs : List ℕ) (h : Header) → take (h.head + h.size - h.head) (drop h.head bs) ≡ contents h bs
part_is bs h = ap (λ (n : ℕ). take n (drop h.head bs)) (cut h.head h.size)

pub inside_at : (levels place : ℕ) (bs : List ℕ) (h : Header) (f : Fault) → 0 < levels → Ok h ≡ header_of bs → Constructed h.tag →
    InForest (levels - 1) (take (h.head + h.size - h.head) (drop h.head bs)) (place + h.head) f → InElement levels bs place f
inside_at levels place bs h f l e k i =
    inside h l (sym e) k (subst (λ (b : List ℕ). InForest (levels - 1) b (place + h.head) f) (part_is bs h) i)

pub node_at : (levels : ℕ) (bs : List ℕ) (h : Header) → Bytes bs → 0 < levels → Ok h ≡ header_of bs →
    Constructed h.tag → Forms (levels - 1) (take (h.head + h.size - h.head) (drop h.head bs)) → Starts levels bs (h.head + h.size)
node_at levels bs h t l e k f = node_starts levels bs h t l (sym e) k (subst (λ (b : List ℕ). Forms (levels - 1) b) (part_is bs h) f)

-- `&bytes[at..]`
pub starts_at : (levels at n : ℕ) (bs : List ℕ) → Starts levels (take (length bs - at) (drop at bs)) n → Starts levels (drop at bs) n
starts_at levels at n bs s = subst (λ (b : List ℕ). Starts levels b n) (take_rest bs at) s

pub first_at : (levels place at : ℕ) (bs : List ℕ) (f : Fault) → at < length bs →
    InElement levels (take (length bs - at) (drop at bs)) (place + at) f → InForest levels (drop at bs) (place + at) f
first_at levels place at bs f l i =
    first (simp length-drop (omega arith)) (subst (λ (b : List ℕ). InElement levels b (place + at) f) (take_rest bs at) i)

pub forms_end : (levels at : ℕ) (bs : List ℕ) → length bs ≤ at → Forms levels (drop at bs)
forms_end levels at bs l = (none, tt, sym (drop_all at bs l))

-- what the test of the tag tells
pub by_bit : (tag : ℕ) → constructed tag ≡ true → Constructed tag
by_bit tag e z = let w : ◌≡◌ {A = Bool} false true = sym (cond-true (eqb (bit_and tag 32) 0) false true (eq-eqb (bit_and tag 32) 0 z)) ∙ e in let n : ◌≡◌ {A = ℕ} 0 1 = cc in omega arith

pub by_no_bit : (tag : ℕ) → constructed tag ≡ false → bit_and tag 32 ≡ 0
by_no_bit tag e =
    cases_bool (eqb (bit_and tag 32) 0) (eqb-true (bit_and tag 32) 0)
    (λ f. let w : ◌≡◌ {A = Bool} true false = sym (cond-false (eqb (bit_and tag 32) 0) false true f) ∙ e in let n : ◌≡◌ {A = ℕ} 0 1 = cc in absurd (omega arith))
  where
    cases_bool : (b : Bool) {P : Type 0} → (b ≡ true → P) → (b ≡ false → P) → P
    cases_bool true t f = t refl
    cases_bool false t f = f refl
