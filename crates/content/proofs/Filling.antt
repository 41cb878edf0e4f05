-- Reading from lists that are joined, into a block that is filled bit by bit.
use Rattle.std.proofs.Common.{◌≡◌, ℕ, zero, suc, ◌+◌, ◌-◌, ◌<◌, ◌≤◌, min, List, [], ◌∷◌, ◌++◌, length, take, drop, sym, refl, ap, ◌∙◌, subst, ⊎_elim, arith}
use Rattle.std.proofs.lemmas.List.{take-take, take-append-drop, drop-take, length-take, length-drop, length-append, take_all, take_at, take_rest, drop_at, drop_all, drop-drop, take-append-le, append_assoc, append-nil}
use Rattle.std.proofs.lemmas.Bool.{cases_lt}
use lib.Seq.{take-append-add}
use borrow.Rule.Slice.PartMut.{put_mid}
use Rattle.digest.specs.Read.{Read}

-- what is left of two joined lists
drop_joined : (p : ℕ) (xs ys : List ℕ) → drop p (xs ++ ys) ≡ drop p xs ++ drop (p - length xs) ys
drop_joined zero [] ys = refl
drop_joined (suc p) [] ys = let z : suc p ≡ suc p - 0 = omega arith in ap (λ (n : ℕ). drop n ys) z
drop_joined zero (x ∷ xs) ys = let z : 0 ≡ 0 - suc (length xs) = omega arith in ap (λ (n : ℕ). (x ∷ xs) ++ drop n ys) z
drop_joined (suc p) (x ∷ xs) ys = let z : p - length xs ≡ suc p - suc (length xs) = omega arith in drop_joined p xs ys ∙ ap (λ (n : ℕ). drop p xs ++ drop n ys) z

-- the front of two joined lists: m of the second only where all of the first are there
take_joined : (n m : ℕ) (xs ys : List ℕ) → n ≤ length xs → (n < length xs → m ≡ 0) → take (n + m) (xs ++ ys) ≡ take n xs ++ take m ys
take_joined n m xs ys l none =
    ⊎_elim
    (λ (h : n < length xs).
    let z = none h in
    let e : n + m ≡ n = omega arith in
    ap (λ (k : ℕ). take k (xs ++ ys)) e ∙ take-append-le n xs ys l ∙ sym (append-nil (take n xs)) ∙ ap (λ (k : ℕ). take n xs ++ take k ys) (sym z))
    (λ (h : length xs ≤ n).
    let e : n ≡ length xs = omega arith in
    ap (λ (k : ℕ). take (k + m) (xs ++ ys)) e ∙ take-append-add xs ys m ∙ ap (λ (x : List ℕ). x ++ take m ys) (sym (take_all n xs h)))
    (cases_lt n (length xs))

module _ (bytes : List ℕ) (place : ℕ) (was is : List ℕ) (n : ℕ) (r : Read bytes place was is n) where
  read_size : length (take n (drop place bytes)) ≡ n
  read_size = simp (length-take, length-drop) (omega (arith, r.many))

  -- what was read, and what is left of the block
  pub read_front : take n is ≡ take n (drop place bytes)
  read_front = ap (take n) r.front ∙ take_at (take n (drop place bytes)) (drop n was) n read_size

  pub read_behind : drop n is ≡ drop n was
  read_behind = ap (drop n) r.front ∙ drop_at (take n (drop place bytes)) (drop n was) n read_size

-- what a list gives goes to the front of a block, and what the next one gives behind it
pub read_on : (before more : List ℕ) (place : ℕ) (was mid tail : List ℕ) (n m : ℕ) → Read before place was mid n → Read more (place - length before) (drop n mid) tail m →
    Read (before ++ more) place was (take n mid ++ tail) (n + m)
read_on before more place was mid tail n m r s =
    let behind = read_behind before place was mid n r in
    let size : length (drop n mid) ≡ length was - n = ap length behind ∙ length-drop n was in
    let xs = drop place before in
    let ys = drop (place - length before) more in
    let all : drop place (before ++ more) ≡ xs ++ ys = drop_joined place before more in
    let room : length xs ≡ length before - place = length-drop place before in
    record {
      many = simp length-append (omega (arith, r.many, s.many, size));
      front =
          ap (λ (x : List ℕ). x ++ tail) (read_front before place was mid n r) ∙ ap (λ (x : List ℕ). take n xs ++ x) s.front
          ∙ sym (append_assoc (take n xs) (take m ys) (drop m (drop n mid)))
          ∙ ap (λ (x : List ℕ). x ++ drop m (drop n mid)) (sym (ap (take (n + m)) all ∙ take_joined n m xs ys (omega (arith, r.many, room)) (λ h. omega (arith, r.many, s.many, size, room, h))))
          ∙ ap (λ (x : List ℕ). take (n + m) (drop place (before ++ more)) ++ x) (ap (drop m) behind ∙ drop-drop m n was);
    }

-- nothing more goes into a full block
pub read_full : (before more : List ℕ) (place : ℕ) (was is : List ℕ) (n : ℕ) → Read before place was is n → length is ≤ n → Read (before ++ more) place was is n
read_full before more place was is n r full =
    let behind = read_behind before place was is n r in
    let size : length (drop n is) ≡ length was - n = ap length behind ∙ length-drop n was in
    let left : length (drop n is) ≡ length is - n = length-drop n is in
    let xs = drop place before in
    let room : length xs ≡ length before - place = length-drop place before in
    record {
      many = simp length-append (omega (arith, r.many, size, left));
      front =
          r.front
          ∙ ap (λ (x : List ℕ). x ++ drop n was)
          (sym (ap (take n) (drop_joined place before more) ∙ take-append-le n xs (drop (place - length before) more) (omega (arith, r.many, room))));
    }

-- the same, as the code does it: what is left of the block is lent, and comes back
pub read_next : (before more : List ℕ) (place from : ℕ) (was mid tail : List ℕ) (n m : ℕ) → from ≡ place - length before → Read before place was mid n →
    Read more from (take (length mid - n) (drop n mid)) tail m → Read (before ++ more) place was (put_mid n (length mid - n) mid tail) (n + m)
read_next before more place from was mid tail n m e r s =
    let Reads : ℕ → List ℕ → Type 0 = λ p block. Read more p block tail m in
    let t : Read more (place - length before) (drop n mid) tail m = subst (Reads (place - length before)) (take_rest mid n) (subst (λ (p : ℕ). Reads p (take (length mid - n) (drop n mid))) e s) in
    let end : drop (length mid - n) (drop n mid) ≡ [] = drop_all (length mid - n) (drop n mid) (simp length-drop (omega arith)) in
    let lent : put_mid n (length mid - n) mid tail ≡ take n mid ++ tail = ap (λ (x : List ℕ). take n mid ++ (tail ++ x)) end ∙ ap (λ (x : List ℕ). take n mid ++ x) (append-nil tail) in
    let Ends : List ℕ → Type 0 = λ is. Read (before ++ more) place was is (n + m) in
    subst Ends (sym lent) (read_on before more place was mid tail n m r t)

-- and nothing is read before anything
pub read_none : (place : ℕ) (block : List ℕ) → Read [] place block block 0
read_none place block = record { many = omega arith; front = refl }

-- the rest of a front, and what is behind the front
rest_of_front : (n m : ℕ) (xs : List ℕ) → n ≤ m → drop n (take m xs) ++ drop m xs ≡ drop n xs
rest_of_front n m xs l =
    let k : ℕ = m - n in
    let e : n + k ≡ m = omega arith in
    ap (λ (i : ℕ). drop n (take i xs) ++ drop i xs) (sym e) ∙ ap (λ (x : List ℕ). x ++ drop (n + k) xs) (drop-take n k xs)
    ∙ ap (λ (x : List ℕ). take k (drop n xs) ++ x) (sym (drop-drop k n xs)) ∙ take-append-drop k (drop n xs)

-- what is read of a front of a list
part_of_front : (n place most : ℕ) (bytes : List ℕ) → n ≤ most - place → take n (drop place (take most bytes)) ≡ take n (drop place bytes)
part_of_front n place most bytes l =
    ⊎_elim
    (λ (h : most < place).
    let z : n ≡ 0 = omega arith in
    ap (λ (i : ℕ). take i (drop place (take most bytes))) z ∙ ap (λ (i : ℕ). take i (drop place bytes)) (sym z))
    (λ (h : place ≤ most).
    let k : ℕ = most - place in
    let e : place + k ≡ most = omega arith in
    ap (λ (i : ℕ). take n (drop place (take i bytes))) (sym e) ∙ ap (take n) (drop-take place k bytes) ∙ take-take n k (drop place bytes) l)
    (cases_lt most place)

-- a block that is as long as the front of a list allows reads no more than the front
pub read_clipped : (bytes : List ℕ) (most place room : ℕ) (was mid : List ℕ) (n : ℕ) → room ≡ min (length was) (most - place) → Read bytes place (take room was) mid n →
    Read (take most bytes) place was (mid ++ drop room was) n
read_clipped bytes most place room was mid n e r =
    let size : length (take room was) ≡ min room (length was) = length-take room was in
    record {
      many = simp length-take (omega (arith, r.many, size));
      front =
          ap (λ (x : List ℕ). x ++ drop room was) r.front ∙ append_assoc (take n (drop place bytes)) (drop n (take room was)) (drop room was)
          ∙ ap (λ (x : List ℕ). take n (drop place bytes) ++ x) (rest_of_front n room was (omega (arith, r.many, size)))
          ∙ ap (λ (x : List ℕ). x ++ drop n was) (sym (part_of_front n place most bytes (omega (arith, r.many, size))));
    }

pub length_clipped : (bytes : List ℕ) (most count n : ℕ) → count ≡ length bytes → n ≡ min count most → n ≡ length (take most bytes)
length_clipped bytes most count n e m = omega (arith, length-take most bytes)
