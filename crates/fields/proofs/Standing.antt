-- Trees that stand from one offset of a file to another: the first of them, what is behind it, and what is inside.
use Rattle.std.proofs.Common.{◌≡◌, ℕ, ◌+◌, ◌-◌, ◌≤◌, List, ◌∷◌, ◌++◌, length, take, drop, Ok, Err, sym, refl, ap, ◌∙◌, add_assoc, arith}
use lib.Bits.{bit_and}
use Rattle.std.proofs.lemmas.List.{length-append, take_all, take_at, drop_at, take-append-drop, append_assoc, append-nil}
use Rattle.der.specs.declared.span.Span.{Span}
use Rattle.der.specs.Head.{header_of}
use Rattle.der.specs.Spans.{part, spanned}
use Rattle.der.specs.Trees.{Tree, leaf, node, Forest, none, more, Valid, Valids, Constructed, length_bytes, framed, encode, encodes, tag_of, body_of}
use Rattle.der.proofs.Parts.{length_part, part_front, part_rest, frame_of, sound_of}
use Rattle.der.proofs.Unique.{of_frame}
pub use Rattle.fields.specs.Stands.{At}
use Rattle.fields.specs.Reads.{placed, any_of}
use Rattle.fields.specs.Placed.{located}
use Rattle.fields.specs.Rules.{parts_of, head_size, body_size}
use Rattle.fields.proofs.Steps.{ok_same}

length_framed : (t : Tree) → length (framed (tag_of t) (body_of t)) ≡ head_size t + body_size t
length_framed t = let e = length-append (length_bytes (length (body_of t))) (body_of t) in omega arith

pub length_encode : (t : Tree) → length (encode t) ≡ head_size t + body_size t
length_encode t = ap length (frame_of t) ∙ length_framed t

module _ (levels : ℕ) (file : List ℕ) (at end : ℕ) where
  -- no trees take up no bytes
  pub none_left : At levels file at end none → at ≡ end
  none_left a = omega (arith, a.order, a.inside, length_part file at end, ap length a.bytes)

  pub none_read : At levels file at end none → any_of file at end ≡ Err at
  none_read a = ap (λ (bs : List ℕ). placed at (spanned at (header_of bs))) a.bytes

  -- nothing stands between an offset and itself
  pub none_at : at ≤ length file → end ≡ at → At levels file at end none
  none_at l e = record {
    valid = tt;
    bytes = let z : end - at ≡ 0 = omega arith in ap (λ (n : ℕ). take n (drop at file)) z;
    order = omega arith;
    inside = omega arith;
  }

module _ (levels : ℕ) (file : List ℕ) (at end : ℕ) (t : Tree) (ts : Forest) (a : At levels file at end (more t ts)) where
  split : part file at end ≡ framed (tag_of t) (body_of t) ++ encodes ts
  split = a.bytes ∙ ap (λ (x : List ℕ). x ++ encodes ts) (frame_of t)

  -- the first tree is the element that is read
  pub first_read : any_of file at end ≡ Ok (located at t)
  first_read =
      ap (λ (bs : List ℕ). placed at (spanned at (header_of bs))) split
      ∙ ap (λ r. placed at (spanned at r)) (of_frame (tag_of t) (body_of t) (encodes ts) (sound_of t levels a.valid.0))

  pub first_stop : (e : Span) → any_of file at end ≡ Ok e → e.end ≡ at + head_size t + body_size t
  first_stop e q = ap (λ (x : Span). x.end) (ok_same (sym q ∙ first_read))

  -- and has room
  pub first_fits : at + head_size t + body_size t ≤ end
  first_fits = omega (arith, length_part file at end, ap length split, length-append (framed (tag_of t) (body_of t)) (encodes ts), length_framed t)

  sum : at + head_size t + body_size t ≡ at + (head_size t + body_size t)
  sum = add_assoc at (head_size t) (body_size t)

  -- its bytes
  pub first_bytes : part file at (at + head_size t + body_size t) ≡ encode t
  first_bytes =
      ap (part file at) sum ∙ part_front file at (head_size t + body_size t) end (omega (arith, first_fits))
      ∙ ap (take (head_size t + body_size t)) a.bytes ∙ take_at (encode t) (encodes ts) (head_size t + body_size t) (length_encode t)

  -- its contents
  pub first_body : part file (at + head_size t) (at + head_size t + body_size t) ≡ body_of t
  first_body =
      let pre : List ℕ = tag_of t ∷ length_bytes (length (body_of t)) in
      part_front file (at + head_size t) (body_size t) end first_fits
      ∙ ap (take (body_size t)) (part_rest file at (head_size t) end (omega (arith, first_fits)) ∙ ap (drop (head_size t)) (split ∙ append_assoc pre (body_of t) (encodes ts))
      ∙ drop_at pre (body_of t ++ encodes ts) (head_size t) refl)
      ∙ take_at (body_of t) (encodes ts) (body_size t) refl

  -- it stands there alone
  pub first_at : At levels file at (at + head_size t + body_size t) (more t none)
  first_at = record {
    valid = (a.valid.0, tt);
    bytes = first_bytes ∙ sym (append-nil (encode t));
    order = omega arith;
    inside = omega (arith, first_fits, a.inside);
  }

  -- the others stand behind it
  pub rest_at : At levels file (at + head_size t + body_size t) end ts
  rest_at = record {
    valid = a.valid.1;
    bytes =
        ap (λ (n : ℕ). part file n end) sum ∙ part_rest file at (head_size t + body_size t) end (omega (arith, first_fits))
        ∙ ap (drop (head_size t + body_size t)) a.bytes
        ∙ drop_at (encode t) (encodes ts) (head_size t + body_size t) (length_encode t);
    order = first_fits;
    inside = a.inside;
  }

parts_valid : (t : Tree) (levels : ℕ) → Valid t levels → Constructed (tag_of t) → Valids (parts_of t) (levels - 1)
parts_valid (leaf tag body) levels v k = absurd (k v.2)
parts_valid (node tag parts) levels v k = v.3

parts_body : (t : Tree) (levels : ℕ) → Valid t levels → Constructed (tag_of t) → body_of t ≡ encodes (parts_of t)
parts_body (leaf tag body) levels v k = absurd (k v.2)
parts_body (node tag parts) levels v k = refl

-- the parts of a constructed element stand inside it
pub parts_at : (levels : ℕ) (file : List ℕ) (at end : ℕ) (t : Tree) (ts : Forest) → At levels file at end (more t ts) → Constructed (tag_of t) →
    At (levels - 1) file (at + head_size t) (at + head_size t + body_size t) (parts_of t)
parts_at levels file at end t ts a k =
    record {
      valid = parts_valid t levels a.valid.0 k;
      bytes = first_body levels file at end t ts a ∙ parts_body t levels a.valid.0 k;
      order = omega arith;
      inside = omega (arith, first_fits levels file at end t ts a, a.inside);
    }

pub tag_constructed : (tag known : ℕ) → tag ≡ known → Constructed known → Constructed tag
tag_constructed tag known e k z = k (ap (λ (x : ℕ). bit_and x 32) (sym e) ∙ z)

-- the same, of an element by its known tag
pub inside_at : (levels : ℕ) (file : List ℕ) (at end : ℕ) (t : Tree) (ts : Forest) → At levels file at end (more t ts) → (tag : ℕ) → tag_of t ≡ tag → Constructed tag →
    At (levels - 1) file (at + head_size t) (at + head_size t + body_size t) (parts_of t)
inside_at levels file at end t ts a tag e k = parts_at levels file at end t ts a (tag_constructed (tag_of t) tag e k)

-- a file that begins with a tree at `at`, and then goes on with other bytes
module _ (levels : ℕ) (file : List ℕ) (at end : ℕ) (t : Tree) (surplus : List ℕ) (v : Valid t levels) (room : end ≤ length file) (e : encode t ++ surplus ≡ part file at end) where
  pub front_size : end ≡ at + head_size t + body_size t + length surplus
  front_size = omega (arith, length_part file at end, ap length e, length-append (encode t) surplus, length_encode t)

  pub front_read : any_of file at end ≡ Ok (located at t)
  front_read =
      ap (λ (bs : List ℕ). placed at (spanned at (header_of bs))) (sym e ∙ ap (λ (x : List ℕ). x ++ surplus) (frame_of t))
      ∙ ap (λ r. placed at (spanned at r)) (of_frame (tag_of t) (body_of t) surplus (sound_of t levels v))

  pub front_at : At levels file at (at + head_size t + body_size t) (more t none)
  front_at = record {
    valid = (v, tt);
    bytes =
        ap (part file at) (add_assoc at (head_size t) (body_size t)) ∙ part_front file at (head_size t + body_size t) end (omega (arith, front_size))
        ∙ ap (take (head_size t + body_size t)) (sym e) ∙ take_at (encode t) surplus (head_size t + body_size t) (length_encode t) ∙ sym (append-nil (encode t));
    order = omega arith;
    inside = omega (arith, front_size);
  }

-- bytes that are one tree
pub whole_at : (levels : ℕ) (file : List ℕ) (t : Tree) → Valid t levels → file ≡ encode t → At levels file 0 (length file) (more t none)
whole_at levels file t v e = record {
  valid = (v, tt);
  bytes = take_all (length file - 0) file (omega arith) ∙ e ∙ sym (append-nil (encode t));
  order = omega arith;
  inside = omega arith;
}

pub part_split : (file : List ℕ) (at mid end : ℕ) → at ≤ mid → mid ≤ end → part file at end ≡ part file at mid ++ part file mid end
part_split file at mid end l m =
    let n : ℕ = mid - at in
    let e : at + n ≡ mid = omega arith in
    sym (take-append-drop n (part file at end))
    ∙ ap (λ (x : List ℕ). x ++ drop n (part file at end)) (sym (part_front file at n end (omega arith)))
    ∙ ap (λ (x : List ℕ). part file at (at + n) ++ x) (sym (part_rest file at n end (omega arith)))
    ∙ ap (λ (k : ℕ). part file at k ++ part file k end) e

-- a tree, and behind it others: they stand together
pub joined_at : (levels : ℕ) (file : List ℕ) (at end : ℕ) (t : Tree) (ts : Forest) → At levels file at (at + head_size t + body_size t) (more t none) →
    At levels file (at + head_size t + body_size t) end ts → At levels file at end (more t ts)
joined_at levels file at end t ts a b = record {
  valid = (a.valid.0, b.valid);
  bytes =
      part_split file at (at + head_size t + body_size t) end a.order b.order
      ∙ ap (λ (x : List ℕ). x ++ part file (at + head_size t + body_size t) end) (a.bytes ∙ append-nil (encode t))
      ∙ ap (λ (x : List ℕ). encode t ++ x) b.bytes;
  order = omega (arith, a.order, b.order);
  inside = b.inside;
}
