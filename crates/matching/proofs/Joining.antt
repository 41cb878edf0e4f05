-- Digests one behind another.
use Rattle.std.proofs.Common.{◌≡◌, ℕ, zero, suc, ◌*◌, ◌≤◌, List, [], ◌∷◌, ◌++◌, map, length, take, drop, sym, refl, ap, ◌∙◌, subst, add-mul, arith}
use Rattle.std.proofs.lemmas.List.{append_assoc, append-nil, length-append, length-take-le, take-append-drop, take_at, drop_at}
use Rattle.std.proofs.lemmas.Iterator.{YieldsList}
use Rattle.std.specs.List.{flat_map}
use Rattle.std.specs.Iterator.{AlwaysYields}
use Rattle.std.specs.Slice.Iter.{chunks_exact_rest, chunks_exact_size, chunks_exact_steps}
use Rattle.std.specs.declared.slice.ChunksExact.{ChunksExact}
use Rattle.der.specs.Trees.{Tree, encode}
use Rattle.index.specs.Puts.{Put}
use Rattle.index.proofs.Areas.{put_then, put_same}
use Rattle.matching.specs.Lists.{parts, digests_bytes}

digests_more : (D : List ℕ → List ℕ) (done : List Tree) (t : Tree) → digests_bytes D (done ++ (t ∷ [])) ≡ digests_bytes D done ++ D (encode t)
digests_more D [] t = append-nil (D (encode t))
digests_more D (x ∷ done) t = ap (λ (z : List ℕ). D (encode x) ++ z) (digests_more D done t) ∙ sym (append_assoc (D (encode x)) (digests_bytes D done) (D (encode t)))

-- the digests of some elements are put
abbrev pub Digested : (List ℕ → List ℕ) → List ℕ → List ℕ → ℕ → List Tree → Type 0
Digested D was is end ts = Put was is 0 (digests_bytes D ts) end

-- one more digest
pub digested_more : (D : List ℕ → List ℕ) (was mid is : List ℕ) (middle end : ℕ) (done : List Tree) (t : Tree) →
    Digested D was mid middle done → Put mid is middle (D (encode t)) end → Digested D was is end (done ++ (t ∷ []))
digested_more D was mid is middle end done t p q = put_same was is _ _ 0 end (sym (digests_more D done t)) (put_then was mid is _ _ 0 middle end p q)

-- digests of one size are told apart again
pub parts_joined : (D : List ℕ → List ℕ) (size : ℕ) → ((xs : List ℕ) → length (D xs) ≡ size) → (es : List (List ℕ)) (rest : List ℕ) → parts (length es) size (flat_map D es ++ rest) ≡ map D es
parts_joined D size sized [] rest = refl
parts_joined D size sized (e ∷ es) rest =
    let split = append_assoc (D e) (flat_map D es) rest in
    ap (λ (x : List ℕ). take size x ∷ parts (length es) size (drop size x)) split
    ∙ ap (λ (x : List ℕ). x ∷ parts (length es) size (drop size (D e ++ (flat_map D es ++ rest)))) (take_at (D e) (flat_map D es ++ rest) size (sized e))
    ∙ ap (λ (x : List ℕ). D e ∷ parts (length es) size x) (drop_at (D e) (flat_map D es ++ rest) size (sized e))
    ∙ ap (λ (x : List (List ℕ)). D e ∷ x) (parts_joined D size sized es rest)

-- the bytes in front, cut into pieces of one size, are the parts
module _ (size : ℕ) (some : 1 ≤ size) (rest : List ℕ) where
  cut : (n : ℕ) (s : ChunksExact ℕ) → chunks_exact_size s ≡ size → length (chunks_exact_rest s) ≡ n * size →
      AlwaysYields chunks_exact_steps (λ x. x.now) s (parts n size (chunks_exact_rest s ++ rest))
  cut zero s width long = λ x t h. absurd (omega (arith, some, width, long, h.1.1, ap length h.1.0, length-append x.now (chunks_exact_rest t)))
  cut (suc n) s width long = (
    (λ t h. absurd (omega (arith, width, long, h.1.0, add-mul 1 n size))),
    λ x t h.
        let wide = h.1.1 ∙ width in
        let split = ap (λ (z : List ℕ). z ++ rest) h.1.0 ∙ append_assoc x.now (chunks_exact_rest t) rest in
        let left : length (chunks_exact_rest t) ≡ n * size = omega (arith, long, wide, ap length h.1.0, length-append x.now (chunks_exact_rest t), add-mul 1 n size) in (
          sym (ap (take size) split ∙ take_at x.now _ size wide),
          subst (λ (z : List ℕ). AlwaysYields chunks_exact_steps (λ y. y.now) t (parts n size z)) (sym (ap (drop size) split ∙ drop_at x.now _ size wide)) (cut n t (h.0 ∙ width) left),
        ),
  )

pub parts_yielded : (size count : ℕ) (bytes : List ℕ) (s : ChunksExact ℕ) → 1 ≤ size → count * size ≤ length bytes →
    chunks_exact_rest s ≡ take (count * size) bytes → chunks_exact_size s ≡ size → YieldsList chunks_exact_steps (λ x. x.now) s (parts count size bytes)
parts_yielded size count bytes s some room front width =
    let whole = ap (λ (z : List ℕ). z ++ drop (count * size) bytes) front ∙ take-append-drop (count * size) bytes in
    let long = ap length front ∙ length-take-le (count * size) bytes room in
    record { runs = subst (λ (z : List ℕ). AlwaysYields chunks_exact_steps (λ x. x.now) s (parts count size z)) whole (cut size some (drop (count * size) bytes) count s width long) }
