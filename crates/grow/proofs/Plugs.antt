-- Lengths of frames, and what stands before and behind their contents.
use Rattle.std.proofs.Common.{◌≡◌, ℕ, ◌+◌, ◌≤◌, cond, ltb, List, [], ◌∷◌, ◌++◌, length, sym, refl, ap, ◌∙◌, arith}
use Rattle.std.proofs.lemmas.Bool.Decides.{nat_tests}
use Rattle.std.proofs.lemmas.List.{append_assoc, append-nil, length-append}
use Rattle.std.proofs.lemmas.Bool.{cond_both}
use Rattle.der.specs.Trees.{framed, header_bytes}
use Rattle.der.specs.Headers.{header_size_of}
use Rattle.grow.specs.Frames.{Frame, wrap, plug, around, reach, start, left, right, stale}

-- the size of a header, by its three cases
abbrev size_by : ℕ → ℕ
size_by n = cond (ltb n 128) 2 (cond (ltb n 256) 3 4)

size_by_lem : (n : ℕ) → header_size_of n ≡ size_by n
size_by_lem n =
    cond_both (ltb n 128) (n ∷ []) _ (λ lb. length (0 ∷ lb) ≡ size_by n) (λ e. grind (arith, nat_tests))
    (λ e. cond_both (ltb n 256) (129 ∷ n ∷ []) _ (λ lb. length (0 ∷ lb) ≡ size_by n) (λ d. grind (arith, nat_tests)) (λ d. grind (arith, nat_tests)))

by_most : (n : ℕ) → size_by n ≤ 4
by_most n = grind (arith, nat_tests)

by_grows : (m n : ℕ) → m ≤ n → size_by m ≤ size_by n
by_grows m n l = grind (arith, nat_tests)

pub header_most : (n : ℕ) → header_size_of n ≤ 4
header_most n = omega (arith, size_by_lem n, by_most n)

pub header_grows : (m n : ℕ) → m ≤ n → header_size_of m ≤ header_size_of n
header_grows m n l = omega (arith, size_by_lem m, size_by_lem n, by_grows m n l)

pub length_framed : (tag : ℕ) (body : List ℕ) → length (framed tag body) ≡ header_size_of (length body) + length body
length_framed tag body = length-append (header_bytes tag (length body)) body

pub length_wrap : (f : Frame) (body : List ℕ) → length (wrap f body) ≡ around f (length body)
length_wrap f body =
    length-append f.before (framed f.tag body ++ f.after)
    ∙ ap (λ (x : ℕ). length f.before + x) (length-append (framed f.tag body) f.after ∙ ap (λ (x : ℕ). x + length f.after) (length_framed f.tag body))

pub length_plug : (fs : List Frame) (body : List ℕ) → length (plug fs body) ≡ reach fs (length body)
length_plug [] body = refl
length_plug (f ∷ fs) body = length_plug fs (wrap f body) ∙ ap (reach fs) (length_wrap f body)

pub length_left : (fs : List Frame) (n : ℕ) → length (left fs n) ≡ start fs n
length_left [] n = refl
length_left (f ∷ fs) n =
    length-append (left fs (around f n)) (f.before ++ header_bytes f.tag n)
    ∙ omega (arith, length_left fs (around f n), length-append f.before (header_bytes f.tag n))

around_grows : (f : Frame) (m n : ℕ) → m ≤ n → around f m ≤ around f n
around_grows f m n l = omega (arith, header_grows m n l)

pub reach_grows : (fs : List Frame) (m n : ℕ) → m ≤ n → reach fs m ≤ reach fs n
reach_grows [] m n l = l
reach_grows (f ∷ fs) m n l = reach_grows fs (around f m) (around f n) (around_grows f m n l)

pub reach_least : (fs : List Frame) (n : ℕ) → n ≤ reach fs n
reach_least [] n = omega arith
reach_least (f ∷ fs) n = omega (arith, reach_least fs (around f n))

-- growth does not shrink on the way out
pub reach_adds : (fs : List Frame) (n more : ℕ) → reach fs n + more ≤ reach fs (n + more)
reach_adds [] n more = omega arith
reach_adds (f ∷ fs) n more =
    omega (arith, reach_adds fs (around f n) more, reach_grows fs (around f n + more) (around f (n + more)) (omega (arith, header_grows n (n + more) (omega arith))))

-- all that is around the contents
pub reach_is : (fs : List Frame) (n : ℕ) → reach fs n ≡ start fs n + n + length (right fs)
reach_is [] n = omega arith
reach_is (f ∷ fs) n = omega (arith, reach_is fs (around f n), length-append f.after (right fs))

-- the file is what stands before, the contents and what stands behind
pub plug_stale : (fs : List Frame) (body : List ℕ) → plug fs body ≡ stale fs (length body) body
plug_stale [] body = sym (append-nil body)
plug_stale (f ∷ fs) body =
    plug_stale fs (wrap f body)
    ∙ ap (λ (n : ℕ). left fs n ++ (wrap f body ++ right fs)) (length_wrap f body)
    ∙ simp append_assoc

-- the header of the innermost frame, as it stands
pub stale_at : (f : Frame) (fs : List Frame) (n : ℕ) (body : List ℕ) →
    stale (f ∷ fs) n body ≡ (left fs (around f n) ++ f.before) ++ (header_bytes f.tag n ++ (body ++ (f.after ++ right fs)))
stale_at f fs n body = simp append_assoc

-- and after it is written anew
pub stale_on : (f : Frame) (fs : List Frame) (n : ℕ) (body : List ℕ) →
    (left fs (around f n) ++ f.before) ++ (header_bytes f.tag (length body) ++ (body ++ (f.after ++ right fs))) ≡ stale fs (around f n) (wrap f body)
stale_on f fs n body = simp append_assoc

pub length_stale : (fs : List Frame) (n : ℕ) (body : List ℕ) → length (stale fs n body) ≡ start fs n + length body + length (right fs)
length_stale fs n body = omega (arith, length-append (left fs n) (body ++ right fs), length-append body (right fs), length_left fs n)

pub stale_most : (fs : List Frame) (n more : ℕ) (body : List ℕ) → length body ≡ n + more → length (stale fs n body) ≤ reach fs (length body)
stale_most fs n more body e =
    let r : reach fs (length body) ≡ reach fs (n + more) = ap (reach fs) e in
    omega (arith, length_stale fs n body, reach_is fs n, reach_adds fs n more)
