-- A stream that is given bytes holds them.
use Rattle.std.proofs.Common.{◌≡◌, ℕ, zero, suc, ◌+◌, ◌-◌, ◌*◌, ◌/◌, ◌%◌, ◌<◌, ◌≤◌, List, ◌++◌, length, get_or, take, drop, sym, refl, ap, ◌∙◌, subst, arith, length-append, length-drop, length-take, mod-eq_of_lt, take_all}
use Rattle.std.proofs.Math.Nat.{div-mul-le_self, mod-add-div', mod-lt, mod_self, mul-add-mod_self_right, mul-mod_left, suc-mul, zero-mul}
use Rattle.std.proofs.lemmas.List.{append-nil, append_assoc, drop-drop, drop_all, take-append-drop, take_at}
use Rattle.std.specs.Simd.{first_chunks}
use Rattle.areas.specs.Overlays.{Overlaid}
use Rattle.block_stream.specs.Streams.{Holds}
use Rattle.block_stream.specs.declared.stream.Stream.{Stream}

-- whole blocks in front change nothing at what is left over
pub after_whole : (a b n : ℕ) → a % n ≡ 0 → (a + b) % n ≡ b % n
after_whole a b n e =
    let whole : a / n * n ≡ a = omega (arith, mod-add-div' a n) in
    ap (λ z. (z + b) % n) (sym whole) ∙ mul-add-mod_self_right (a / n) n b

-- a chunk is a part of the list
pub chunk_at : (n k i : ℕ) (xs d : List ℕ) → i < k → get_or (first_chunks n k xs) i d ≡ take n (drop (i * n) xs)
chunk_at n zero i xs d h = absurd (omega arith)
chunk_at n (suc k) zero xs d h = ap (λ m. take n (drop m xs)) (sym (zero-mul n))
chunk_at n (suc k) (suc i) xs d h =
    let more = suc-mul i n in
    let sizes : n + i * n ≡ suc i * n = omega arith in
    chunk_at n k i (drop n xs) d (omega arith) ∙ ap (take n) (drop-drop (i * n) n xs) ∙ ap (λ m. take n (drop m xs)) sizes

module _ {S : Type 0} (n : ℕ) (stands : S → List ℕ → Type 0) where
  -- by what is left over
  made : (s : Stream S n) (xs blocks left : List ℕ) → s.count ≡ length xs → length blocks % n ≡ 0 → stands s.state blocks → length left < n → take (length left) s.buffer ≡ left → xs ≡ blocks ++ left → Holds n stands s xs
  made s xs blocks left counted whole chained short front is =
      let size : length xs % n ≡ length left =
      ap (λ z. length z % n) is ∙ ap (λ m. m % n) (length-append blocks left) ∙ after_whole (length blocks) (length left) n whole ∙ mod-eq_of_lt short in
      record {
        counted = counted;
        blocks = blocks;
        whole = whole;
        chained = chained;
        rest = is ∙ ap (λ z. blocks ++ z) (sym (ap (λ m. take m s.buffer) size ∙ front));
      }

  module _ (s : Stream S n) (xs ys : List ℕ) (u : ℕ) (at : u ≡ s.count % n) (room : length s.buffer ≡ n) (h : Holds n stands s xs) where
    abbrev pub left : List ℕ
    left = take u s.buffer

    before : xs ≡ h.blocks ++ left
    before = h.rest ∙ ap (λ m. h.blocks ++ take (m % n) s.buffer) (sym h.counted) ∙ ap (λ m. h.blocks ++ take m s.buffer) (sym at)

    counts : s.count + length ys ≡ length (xs ++ ys)
    counts = let counted = h.counted in omega (arith, length-append xs ys)

    -- the bytes leave the block open
    pub holds_open : (buffer : List ℕ) (end : ℕ) → u + length ys < n → Overlaid s.buffer buffer u ys end → Holds n stands (record { state = s.state; buffer = buffer; count = s.count + length ys }) (xs ++ ys)
    holds_open buffer end small put =
        let size : length left ≡ u = simp length-take (omega arith) in
        let all = length-append left ys in
        made (record { state = s.state; buffer = buffer; count = s.count + length ys }) (xs ++ ys) h.blocks (left ++ ys) counts h.whole h.chained (omega arith)
        (ap (take (length (left ++ ys))) ((put.fits (omega arith)).1 ∙ sym (append_assoc left ys (drop (u + length ys) s.buffer))) ∙ take_at (left ++ ys) (drop (u + length ys) s.buffer) (length (left ++ ys)) refl)
        (ap (λ z. z ++ ys) before ∙ append_assoc h.blocks left ys)

    -- nothing is left over, and whole blocks follow
    pub holds_straight : (over b : List ℕ) (end : ℕ) (s2 : S) → 0 < n → u ≡ 0 → over ≡ drop (length ys / n * n) ys → Overlaid s.buffer b 0 over end
        → ((zs : List ℕ) → length zs % n ≡ 0 → stands s.state zs → stands s2 (zs ++ take (length ys / n * n) ys))
        → Holds n stands (record { state = s2; buffer = b; count = s.count + length ys }) (xs ++ ys)
    holds_straight over b end s2 some none e put t =
        let k = length ys / n in
        let front = take (k * n) ys in
        let many : length front ≡ k * n = let l = div-mul-le_self (length ys) n in simp length-take (omega arith) in
        let short : length over < n = rw e (let m = mod-add-div' (length ys) n in let r : length ys % n < n = mod-lt (length ys) some in simp length-drop (omega arith)) in
        let whole : length (h.blocks ++ front) % n ≡ 0 =
        ap (λ m. m % n) (length-append h.blocks front) ∙ after_whole (length h.blocks) (length front) n h.whole ∙ ap (λ m. m % n) many ∙ mul-mod_left k n in
        let tail : ys ≡ front ++ over = sym (ap (λ z. front ++ z) e ∙ take-append-drop (k * n) ys) in
        let alone : xs ≡ h.blocks = before ∙ ap (λ m. h.blocks ++ take m s.buffer) none ∙ append-nil h.blocks in
        let all : xs ++ ys ≡ (h.blocks ++ front) ++ over =
        ap (λ z. z ++ ys) alone ∙ ap (λ z. h.blocks ++ z) tail ∙ sym (append_assoc h.blocks front over) in
        made (record { state = s2; buffer = b; count = s.count + length ys }) (xs ++ ys) (h.blocks ++ front) over counts whole (t h.blocks h.whole h.chained) short
        (ap (take (length over)) (put.fits (omega (arith, short))).1 ∙ take_at over (drop (0 + length over) s.buffer) (length over) refl) all

    -- the bytes close the block, and whole blocks follow; `rest` is what stands behind the first block's bytes
    pub holds_closed : (first rest over b1 b2 : List ℕ) (end1 end2 : ℕ) (s1 s2 : S) → u < n → n - u ≤ length ys → first ≡ take (n - u) ys → rest ≡ drop (n - u) ys → Overlaid s.buffer b1 u first end1 → over ≡ drop (length rest / n * n) rest → Overlaid b1 b2 0 over end2
        → ((zs : List ℕ) → length zs % n ≡ 0 → stands s.state zs → stands s1 (zs ++ take (length b1 / n * n) b1)) → ((zs : List ℕ) → length zs % n ≡ 0 → stands s1 zs → stands s2 (zs ++ take (length rest / n * n) rest))
        → Holds n stands (record { state = s2; buffer = b2; count = s.count + length ys }) (xs ++ ys)
    holds_closed first rest over b1 b2 end1 end2 s1 s2 low fits e1 e2 put1 e4 put2 t1 t2 =
        let k = length rest / n in
        let size : length left ≡ u = simp length-take (omega arith) in
        let part : length first ≡ n - u = ap length e1 ∙ simp length-take (omega arith) in
        let full : u + length first ≡ length s.buffer = omega arith in
        let block : b1 ≡ left ++ first =
        (put1.fits (omega arith)).1 ∙ ap (λ z. left ++ (first ++ z)) (drop_all (u + length first) s.buffer (omega arith)) ∙ ap (λ z. left ++ z) (append-nil first) in
        let width : length (b1) ≡ n = ap length block ∙ length-append left first ∙ omega arith in
        let alone : length b1 / n * n ≡ length b1 = let m = mod-add-div' (length b1) n in let z = mod_self n in omega (arith, ap (λ l. l % n) width) in
        let same : take (length b1 / n * n) b1 ≡ b1 = take_all (length b1 / n * n) b1 (omega arith) in
        let front = take (k * n) rest in
        let many : length front ≡ k * n = let l = div-mul-le_self (length rest) n in simp length-take (omega arith) in
        let short : length over < n = rw e4 (let m = mod-add-div' (length rest) n in let r : length rest % n < n = mod-lt (length rest) (omega arith) in simp length-drop (omega arith)) in
        let one = h.blocks ++ b1 in
        let whole1 : length one % n ≡ 0 =
        ap (λ m. m % n) (length-append h.blocks (b1)) ∙ after_whole (length h.blocks) (length (b1)) n h.whole ∙ ap (λ m. m % n) width ∙ mod_self n in
        let whole2 : length (one ++ front) % n ≡ 0 =
        ap (λ m. m % n) (length-append one (front)) ∙ after_whole (length one) (length (front)) n whole1 ∙ ap (λ m. m % n) many ∙ mul-mod_left k n in
        let tail : rest ≡ front ++ over = sym (ap (λ z. front ++ z) e4 ∙ take-append-drop (k * n) rest) in
        let ends : ys ≡ first ++ rest = sym (ap (λ z. z ++ rest) e1 ∙ ap (λ z. take (n - u) ys ++ z) e2 ∙ take-append-drop (n - u) ys) in
        let all : xs ++ ys ≡ (one ++ front) ++ over =
        ap (λ z. z ++ ys) before ∙ ap (λ z. (h.blocks ++ left) ++ z) ends ∙ append_assoc h.blocks left (first ++ rest) ∙ ap (λ z. h.blocks ++ z) (sym (append_assoc left first rest))
        ∙ ap (λ z. h.blocks ++ (z ++ rest)) (sym block) ∙ sym (append_assoc h.blocks (b1) rest) ∙ ap (λ z. one ++ z) tail ∙ sym (append_assoc one (front) over) in
        made (record { state = s2; buffer = b2; count = s.count + length ys }) (xs ++ ys) (one ++ front) over counts whole2
        (t2 one whole1 (subst (λ z. stands s1 (h.blocks ++ z)) same (t1 h.blocks h.whole h.chained))) short
        (ap (take (length over)) (put2.fits (omega (arith, short, width))).1 ∙ take_at over (drop (0 + length over) b1) (length over) refl) all

  -- where nothing is left over, the state stands for all bytes
  pub holds_whole : (s : Stream S n) (xs : List ℕ) → length xs % n ≡ 0 → Holds n stands s xs → stands s.state xs
  holds_whole s xs none h =
      let is : xs ≡ h.blocks = h.rest ∙ ap (λ m. h.blocks ++ take m s.buffer) none ∙ append-nil h.blocks in
      subst (stands s.state) (sym is) h.chained
