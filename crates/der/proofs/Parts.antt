-- Parts of bytes: where they end, and what a header at their front says of the trees in them.
use Rattle.std.proofs.Common.{◌≡◌, ℕ, suc, ◌+◌, ◌-◌, ◌≤◌, min, List, ◌++◌, length, take, drop, Ok, Err, Result, sym, refl, ap, ◌∙◌, arith}
use Rattle.std.proofs.lemmas.List.{length-take, length-drop, take_at, drop_at, drop-drop, take-take, drop-take, length-append}
use Rattle.der.specs.declared.cause.Cause.{Cause}
use Rattle.der.specs.declared.header.Header.{Header}
use Rattle.der.specs.Bytes.{Bytes}
use Rattle.der.specs.Head.{header_of}
use Rattle.der.specs.Trees.{Tree, leaf, node, Forest, more, Sound, Valid, Valids, length_bytes, framed, encode, encodes, tag_of, body_of}
use Rattle.der.specs.Spans.{part, span_at, spanned, Handed, FirstTree}
use Rattle.der.proofs.Decided.{bytes_take, bytes_drop}
use Rattle.der.proofs.Heads.{header_within}
use Rattle.der.proofs.Unique.{headed, leaf_head, contents_of}

pub length_part : (bs : List ℕ) (at end : ℕ) → length (part bs at end) ≡ min (end - at) (length bs - at)
length_part bs at end = length-take (end - at) (drop at bs) ∙ ap (min (end - at)) (length-drop at bs)

pub bytes_part : (bs : List ℕ) (at end : ℕ) → Bytes bs → Bytes (part bs at end)
bytes_part bs at end t = bytes_take (end - at) (drop at bs) (bytes_drop at bs t)

-- a part of a part
pub part_front : (bs : List ℕ) (at n end : ℕ) → at + n ≤ end → part bs at (at + n) ≡ take n (part bs at end)
part_front bs at n end l =
    let q : at + n - at ≡ n = omega arith in
    ap (λ (m : ℕ). take m (drop at bs)) q ∙ sym (take-take n (end - at) (drop at bs) (omega arith))

pub part_rest : (bs : List ℕ) (at n end : ℕ) → at + n ≤ end → part bs (at + n) end ≡ drop n (part bs at end)
part_rest bs at n end l =
    let q : end - at ≡ n + (end - (at + n)) = omega arith in
    ap (take (end - (at + n))) (sym (drop-drop n at bs)) ∙ sym (drop-take n (end - (at + n)) (drop at bs))
    ∙ ap (λ (m : ℕ). drop n (take m (drop at bs))) (sym q)

-- an element ends where the part does, at the latest
pub header_ends : (bs : List ℕ) (at end : ℕ) (h : Header) → header_of (part bs at end) ≡ Ok h →
    (2 ≤ h.head) × (at + (h.head + h.size) ≤ end) × (at + (h.head + h.size) ≤ length bs)
header_ends bs at end h e =
    let w = header_within (part bs at end) h e in
    (w.0, omega (arith, w.0, w.1, length_part bs at end), omega (arith, w.0, w.1, length_part bs at end))

-- every element is a frame
pub frame_of : (t : Tree) → encode t ≡ framed (tag_of t) (body_of t)
frame_of (leaf tag body) = refl
frame_of (node tag parts) = refl

pub sound_of : (t : Tree) (levels : ℕ) → Valid t levels → Sound (tag_of t) (body_of t)
sound_of (leaf tag body) levels v = v.1
sound_of (node tag parts) levels v = v.1

-- a header says the tag and the length of the frame
pub header_says : (tag : ℕ) (body rest bs : List ℕ) (h : Header) → Sound tag body → bs ≡ framed tag body ++ rest → header_of bs ≡ Ok h →
    (h.tag ≡ tag) × (h.head + h.size ≡ length (framed tag body)) × (h.size ≡ length body)
header_says tag body rest bs h s e q =
    let r : headed tag (length_bytes (length body)) (length body) ≡ Ok h = sym (leaf_head tag body rest bs s e) ∙ q in
    let z : h.size ≡ length body = ap (λ (r : Result Header Cause). elim r [ Ok h ↦ h.size | Err c ↦ 0 ]) (sym r) in
    let d : h.head ≡ suc (length (length_bytes (length body))) = ap (λ (r : Result Header Cause). elim r [ Ok h ↦ h.head | Err c ↦ 0 ]) (sym r) in (
      ap (λ (r : Result Header Cause). elim r [ Ok h ↦ h.tag | Err c ↦ 0 ]) (sym r),
      omega (arith, length-append (length_bytes (length body)) body),
      z,
    )

-- the element at `at` is the first of the trees that stand from there to `end`
pub first_tree : (bs : List ℕ) (at end : ℕ) (h : Header) (t : Tree) (ts : Forest) (levels : ℕ) → header_of (part bs at end) ≡ Ok h →
    Valids (more t ts) levels → part bs at end ≡ encodes (more t ts) → FirstTree bs end t ts (span_at at h) (span_at at h).end
first_tree bs at end h t ts levels q v e =
    let p = part bs at end in
    let f : p ≡ framed (tag_of t) (body_of t) ++ encodes ts = e ∙ ap (λ (x : List ℕ). x ++ encodes ts) (frame_of t) in
    let s : Sound (tag_of t) (body_of t) = sound_of t levels v.0 in
    let says = header_says (tag_of t) (body_of t) (encodes ts) p h s f q in
    let room : h.head + h.size ≤ min (end - at) (length bs - at) = omega (arith, (header_within p h q).1, length_part bs at end) in
    let sum : at + h.head + h.size ≡ at + (h.head + h.size) = omega arith in
    let size : length (encode t) ≡ h.head + h.size = ap length (frame_of t) ∙ sym says.1 in
    record {
      tag = says.0;
      whole =
          ap (part bs at) sum ∙ part_front bs at (h.head + h.size) end (omega arith)
          ∙ ap (take (h.head + h.size)) e ∙ take_at (encode t) (encodes ts) (h.head + h.size) size;
      inside =
          part_front bs (at + h.head) h.size end (omega arith)
          ∙ ap (take h.size) (part_rest bs at h.head end (omega arith))
          ∙ (contents_of (tag_of t) (body_of t) (encodes ts) p h s f q).1;
      rest =
          ap (λ (n : ℕ). part bs n end) sum ∙ part_rest bs at (h.head + h.size) end (omega arith)
          ∙ ap (drop (h.head + h.size)) e ∙ drop_at (encode t) (encodes ts) (h.head + h.size) size;
    }

-- what the header says is what is handed out
pub handed : (bs : List ℕ) (at end : ℕ) (h : Header) → header_of (part bs at end) ≡ Ok h → Handed bs at end (span_at at h) (span_at at h).end
handed bs at end h e =
    let w = header_ends bs at end h e in
    record {
      read = ap (spanned at) e;
      start = refl;
      body = omega (arith, w.0);
      ends = omega arith;
      within = omega (arith, w.1);
      behind = refl;
    }
