-- What is computed is the tree or the first fault.
use Rattle.std.proofs.Common.{◌≡◌, ℕ, zero, suc, ◌+◌, ◌-◌, ◌<◌, ◌≤◌, cond, eqb, ltb, List, [], ◌∷◌, length, take, drop, Some, None, Ok, Err, Option, Result, sym, refl, ap, ◌∙◌, subst, arith}
use lib.Bits.{bit_and}
use Rattle.std.proofs.lemmas.List.{length-drop, get_or-drop, take_all}
use Rattle.std.proofs.lemmas.Bool.{cond_both, eqb-true, eqb-false, ltb-true, ltb-false}
use Rattle.std.specs.Option as options
use Rattle.std.specs.Result as results
use Rattle.der.specs.declared.header.Header.{Header}
use Rattle.der.specs.declared.fault.Fault.{Fault}
use Rattle.der.specs.declared.cause.Cause.{Cause}
use Rattle.der.specs.declared.broken.Broken.{Broken}
use Rattle.der.specs.declared.broken.Broken.TheVariants.{Faulty, Surplus}
use Rattle.der.specs.Bytes.{Bytes}
use Rattle.der.specs.Head.{header_of}
use Rattle.der.specs.Trees.{Tree, leaf, node, none, Starts, Forms, IsElement, Constructed, encode}
use Rattle.der.specs.Faults.{contents, InElement, InForest, deep, head, inside, first, later}
use Rattle.der.specs.Computed.{or_else, by_header, fault_in, fault_at, size_by, size_at, verdict}
use Rattle.der.specs.Judged.{Walked, WalkedFirst, WalkedOne, Breaks}
use Rattle.der.proofs.Frames.{Framed}
use Rattle.der.proofs.Walks.{framed_at, length_contents, leaf_starts, node_starts, starts_forms}
use Rattle.der.proofs.Unique.{no_fault, one_fault, no_fault_at, one_fault_at, same_rest}

abbrev pub Decides : ℕ → List ℕ → ℕ → Option Fault → Type 0
Decides levels bs place o = options.MatchOption o (Forms levels bs) (λ f. InForest levels bs place f)

pub bytes_take : (n : ℕ) (xs : List ℕ) → Bytes xs → Bytes (take n xs)
bytes_take zero xs t i = omega arith
bytes_take (suc n) [] t i = omega arith
bytes_take (suc n) (x ∷ xs) t zero = t 0
bytes_take (suc n) (x ∷ xs) t (suc i) = bytes_take n xs (λ j. t (suc j)) i

pub bytes_drop : (n : ℕ) (xs : List ℕ) → Bytes xs → Bytes (drop n xs)
bytes_drop n xs t i = omega (arith, get_or-drop n xs i 0, t (n + i))

-- the element is whole, and then what is behind it decides
onward : (levels n : ℕ) (bs : List ℕ) (place : ℕ) (o : Option Fault) → Starts levels bs n → Decides levels (drop n bs) (place + n) o → Decides levels bs place o
onward levels n bs place None s d = starts_forms levels n bs s d
onward levels n bs place (Some f) s d = later n s d

or_else_lem : (levels n : ℕ) (bs : List ℕ) (place : ℕ) (o rest : Option Fault) →
    options.MatchOption o (Starts levels bs n) (λ f. InForest levels bs place f) → Decides levels (drop n bs) (place + n) rest → Decides levels bs place (or_else o rest)
or_else_lem levels n bs place None rest s d = onward levels n bs place rest s d
or_else_lem levels n bs place (Some f) rest i d = i

inner : (levels : ℕ) (bs : List ℕ) (place : ℕ) (h : Header) (o : Option Fault) → 0 < length bs → 0 < levels → Bytes bs → header_of bs ≡ Ok h → Constructed h.tag →
    Decides (levels - 1) (contents h bs) (place + h.head) o → options.MatchOption o (Starts levels bs (h.head + h.size)) (λ f. InForest levels bs place f)
inner levels bs place h None m l t e k d = node_starts levels bs h t l e k d
inner levels bs place h (Some f) m l t e k d = first m (inside h l e k d)

by_header_lem : (fuel levels : ℕ) (bs : List ℕ) (place : ℕ) (r : Result Header Cause) → header_of bs ≡ r → 0 < length bs → length bs ≤ suc fuel → 0 < levels → Bytes bs →
    ((ls : ℕ) (xs : List ℕ) (p : ℕ) → length xs ≤ fuel → Bytes xs → Decides ls xs p (fault_in fuel ls xs p)) →
    Decides levels bs place (by_header r place (λ h. or_else
    (cond (eqb (bit_and h.tag 32) 0) None (fault_in fuel (levels - 1) (contents h bs) (place + h.head)))
    (fault_in fuel levels (drop (h.head + h.size) bs) (place + (h.head + h.size)))))
by_header_lem fuel levels bs place (Err c) e m b l t ih = first m (head c l e refl)
by_header_lem fuel levels bs place (Ok h) e m b l t ih =
    let w : Framed bs h = framed_at bs h t e in
    or_else_lem levels (h.head + h.size) bs place _ _
    (cond_both (eqb (bit_and h.tag 32) 0) None (fault_in fuel (levels - 1) (contents h bs) (place + h.head))
    (λ o. options.MatchOption o (Starts levels bs (h.head + h.size)) (λ f. InForest levels bs place f))
    (λ k. leaf_starts levels bs h t l e (eqb-true (bit_and h.tag 32) 0 k))
    (λ k. inner levels bs place h _ m l t e (eqb-false (bit_and h.tag 32) 0 k)
    (ih (levels - 1) (contents h bs) (place + h.head) (omega (arith, length_contents bs h w, w.within, w.least)) (bytes_take h.size _ (bytes_drop h.head bs t)))))
    (ih levels (drop (h.head + h.size) bs) (place + (h.head + h.size)) (simp length-drop (omega (arith, w.least))) (bytes_drop (h.head + h.size) bs t))

pub decides : (fuel levels : ℕ) (bs : List ℕ) (place : ℕ) → length bs ≤ fuel → Bytes bs → Decides levels bs place (fault_in fuel levels bs place)
decides zero levels [] place l t = (none, tt, refl)
decides zero levels (b ∷ bs) place l t = absurd (omega arith)
decides (suc fuel) levels [] place l t = (none, tt, refl)
decides (suc fuel) levels (b ∷ bs) place l t =
    cond_both (eqb levels 0) _ _ (Decides levels (b ∷ bs) place)
    (λ e. first (omega arith) (deep (eqb-true levels 0 e) refl))
    (λ e. by_header_lem fuel levels (b ∷ bs) place (header_of (b ∷ bs)) refl (omega arith) l (omega (arith, eqb-false levels 0 e)) t
    (λ ls xs p m u. decides fuel ls xs p m u))

-- what is a tree or the first fault is what is computed
module _ (levels : ℕ) (bs : List ℕ) (t : Bytes bs) where
  accepted : (o : Option Fault) → Decides levels bs 0 o → (r : Result (Unit {0}) Fault) → results.MatchResult r (λ _. Forms levels bs) (λ f. InForest levels bs 0 f) → r ≡ verdict tt o
  accepted None w (Ok x) d = refl
  accepted None w (Err f) d = absurd (no_fault levels bs 0 f d w)
  accepted (Some g) i (Ok x) d = absurd (no_fault levels bs 0 g i d)
  accepted (Some g) i (Err f) d = ap {B = Result (Unit {0}) Fault} Err (one_fault levels bs 0 f g d i)

  pub walked : (r : Result (Unit {0}) Fault) → results.MatchResult r (λ _. Forms levels bs) (λ f. InForest levels bs 0 f) → Walked levels bs r
  walked (Ok tt) m = record {
    meaning = m;
    accepts = λ _. refl;
    refuses = λ f i. absurd (no_fault levels bs 0 f i m);
    computed = accepted _ (decides (length bs) levels bs 0 (omega arith) t) (Ok tt) m;
  }
  walked (Err g) m = record {
    meaning = m;
    accepts = λ w. absurd (no_fault levels bs 0 g m w);
    refuses = λ f i. ap {B = Result (Unit {0}) Fault} Err (one_fault levels bs 0 g f m i);
    computed = accepted _ (decides (length bs) levels bs 0 (omega arith) t) (Err g) m;
  }

-- the same of the element that the bytes begin with
abbrev pub DecidesAt : ℕ → List ℕ → ℕ → ℕ → Option Fault → Type 0
DecidesAt levels bs place n o = options.MatchOption o (Starts levels bs n) (λ f. InElement levels bs place f)

within_at : (levels : ℕ) (bs : List ℕ) (place : ℕ) (h : Header) (o : Option Fault) → 0 < levels → Bytes bs → header_of bs ≡ Ok h → Constructed h.tag →
    Decides (levels - 1) (contents h bs) (place + h.head) o → DecidesAt levels bs place (h.head + h.size) o
within_at levels bs place h None l t e k d = node_starts levels bs h t l e k d
within_at levels bs place h (Some f) l t e k d = inside h l e k d

by_header_at : (levels : ℕ) (bs : List ℕ) (place : ℕ) (r : Result Header Cause) → header_of bs ≡ r → 0 < levels → Bytes bs →
    DecidesAt levels bs place (size_by r) (by_header r place (λ h. cond (eqb (bit_and h.tag 32) 0) None (fault_in h.size (levels - 1) (contents h bs) (place + h.head))))
by_header_at levels bs place (Err c) e l t = head c l e refl
by_header_at levels bs place (Ok h) e l t =
    let w : Framed bs h = framed_at bs h t e in
    cond_both (eqb (bit_and h.tag 32) 0) None (fault_in h.size (levels - 1) (contents h bs) (place + h.head)) (DecidesAt levels bs place (h.head + h.size))
    (λ k. leaf_starts levels bs h t l e (eqb-true (bit_and h.tag 32) 0 k))
    (λ k. within_at levels bs place h _ l t e (eqb-false (bit_and h.tag 32) 0 k)
    (decides h.size (levels - 1) (contents h bs) (place + h.head) (omega (arith, length_contents bs h w)) (bytes_take h.size _ (bytes_drop h.head bs t))))

pub decides_at : (levels : ℕ) (bs : List ℕ) (place : ℕ) → Bytes bs → DecidesAt levels bs place (size_at bs) (fault_at levels bs place)
decides_at levels bs place t =
    cond_both (eqb levels 0) _ _ (DecidesAt levels bs place (size_at bs))
    (λ e. deep (eqb-true levels 0 e) refl)
    (λ e. by_header_at levels bs place (header_of bs) refl (omega (arith, eqb-false levels 0 e)) t)

module _ (levels : ℕ) (bs : List ℕ) (t : Bytes bs) where
  first_is : (o : Option Fault) → DecidesAt levels bs 0 (size_at bs) o → (r : Result ℕ Fault) → results.MatchResult r (λ n. Starts levels bs n) (λ f. InElement levels bs 0 f) → r ≡ verdict (size_at bs) o
  first_is None w (Ok n) d = ap {B = Result ℕ Fault} Ok (same_rest levels n (size_at bs) bs d w)
  first_is None w (Err f) d = absurd (no_fault_at levels bs 0 (size_at bs) f d w)
  first_is (Some g) i (Ok n) d = absurd (no_fault_at levels bs 0 n g i d)
  first_is (Some g) i (Err f) d = ap {B = Result ℕ Fault} Err (one_fault_at levels bs 0 f g d i)

  pub walked_first : (r : Result ℕ Fault) → results.MatchResult r (λ n. Starts levels bs n) (λ f. InElement levels bs 0 f) → WalkedFirst levels bs r
  walked_first (Ok n) m = record {
    meaning = m;
    accepts = λ k s. ap {B = Result ℕ Fault} Ok (same_rest levels n k bs m s);
    refuses = λ f i. absurd (no_fault_at levels bs 0 n f i m);
    computed = first_is _ (decides_at levels bs 0 t) (Ok n) m;
  }
  walked_first (Err g) m = record {
    meaning = m;
    accepts = λ k s. absurd (no_fault_at levels bs 0 k g m s);
    refuses = λ f i. ap {B = Result ℕ Fault} Err (one_fault_at levels bs 0 g f m i);
    computed = first_is _ (decides_at levels bs 0 t) (Err g) m;
  }

has_bytes : (t : Tree) (bs : List ℕ) → encode t ≡ bs → 0 < length bs
has_bytes (leaf tag body) bs e = omega (arith, ap length e)
has_bytes (node tag parts) bs e = omega (arith, ap length e)

-- one element and nothing behind it takes up all bytes
starts_whole : (levels : ℕ) (bs : List ℕ) → IsElement levels bs → Starts levels bs (length bs)
starts_whole levels bs (t, v, e) = (t, v, e ∙ sym (take_all (length bs) bs (omega arith)), omega arith, has_bytes t bs e)

whole_is : (levels n : ℕ) (bs : List ℕ) → Starts levels bs n → length bs ≤ n → IsElement levels bs
whole_is levels n bs (t, v, e, l, p) k = (t, v, e ∙ take_all n bs k)

module _ (levels : ℕ) (bs : List ℕ) where
  pub one_surplus : (n : ℕ) → Starts levels bs n → n < length bs → WalkedOne levels bs (Err (Surplus n))
  one_surplus n s l = record {
    meaning = (s, l);
    accepts = λ w. absurd (omega (arith, same_rest levels n (length bs) bs s (starts_whole levels bs w)));
    refuses = λ b k. other b k;
  }
    where
      other : (b : Broken) → Breaks levels bs b → ◌≡◌ {A = Result (Unit {0}) Broken} (Err (Surplus n)) (Err b)
      other (Faulty f) k = absurd (no_fault_at levels bs 0 n f k s)
      other (Surplus m) k = ap {B = Result (Unit {0}) Broken} (λ x. Err (Surplus x)) (same_rest levels n m bs s k.0)

  pub one_fault_told : (g : Fault) → InElement levels bs 0 g → WalkedOne levels bs (Err (Faulty g))
  one_fault_told g i = record {
    meaning = i;
    accepts = λ w. absurd (no_fault_at levels bs 0 (length bs) g i (starts_whole levels bs w));
    refuses = λ b k. other b k;
  }
    where
      other : (b : Broken) → Breaks levels bs b → ◌≡◌ {A = Result (Unit {0}) Broken} (Err (Faulty g)) (Err b)
      other (Faulty f) k = ap {B = Result (Unit {0}) Broken} (λ x. Err (Faulty x)) (one_fault_at levels bs 0 g f i k)
      other (Surplus m) k = absurd (no_fault_at levels bs 0 m g i k.0)

  pub one_whole : (n : ℕ) → Starts levels bs n → length bs ≤ n → WalkedOne levels bs (Ok tt)
  one_whole n s l = record {
    meaning = whole_is levels n bs s l;
    accepts = λ _. refl;
    refuses = λ b k. other b k;
  }
    where
      other : (b : Broken) → Breaks levels bs b → ◌≡◌ {A = Result (Unit {0}) Broken} (Ok tt) (Err b)
      other (Faulty f) k = absurd (no_fault_at levels bs 0 n f k s)
      other (Surplus m) k = absurd (omega (arith, k.1, same_rest levels n m bs s k.0))

  pub one_by_end : (n : ℕ) (r : Result (Unit {0}) Broken) → Starts levels bs n → r ≡ cond (ltb n (length bs)) (Err (Surplus n)) (Ok tt) → WalkedOne levels bs r
  one_by_end n r s e =
      subst (WalkedOne levels bs) (sym e) (cond_both (ltb n (length bs)) (Err (Surplus n)) (Ok tt) (WalkedOne levels bs)
      (λ l. one_surplus n s (ltb-true n (length bs) l)) (λ l. one_whole n s (ltb-false n (length bs) l)))
