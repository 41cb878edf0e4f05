-- Bytes that are put into contents.
use Rattle.std.proofs.Common.{◌≡◌, ℕ, ◌+◌, ◌-◌, ◌<◌, ◌≤◌, List, [], ◌∷◌, ◌++◌, length, take, drop, Ok, Err, Result, sym, refl, ap, ◌∙◌, subst, arith}
use Rattle.std.proofs.lemmas.List.{append_assoc, append-nil, take_at, drop_at, take-take, length-append, length-take-le}
use Rattle.der.specs.declared.header.Header.{Header}
use Rattle.der.specs.Head.{header_of}
use Rattle.areas.specs.Overlays.{overlay}
use Rattle.areas.proofs.Overlays.{overlay_front}
use Rattle.der.specs.Headers.{header_size_of}
use Rattle.der.specs.Trees.{framed, header_bytes}
use Rattle.grow.specs.declared.file.GrowingFile.{GrowingFile}
use Rattle.grow.specs.declared.full.Full.{Full}
use Rattle.grow.specs.declared.full.Full.TheVariants.{TooLong}
use Rattle.grow.specs.Frames.{Frame, plug, around, reach, start, left, right}
use Rattle.grow.specs.Splices.{Spliced}
use Rattle.grow.specs.Changes.{Stale, Encloses, Spot, Wrapped, Fits, Changed, short, fitting, file_in}
use Rattle.grow.proofs.Plugs.{length_plug, length_left, plug_stale, reach_adds, reach_is}
use Rattle.grow.proofs.Turns.{Turn}
use Rattle.grow.proofs.Sizes.{same_header, total_most}
use Rattle.grow.proofs.Rewraps.{further}
use Rattle.grow.proofs.Fits.{short_is, short_not, too_long, fits, fitting_is}

-- the length of the file with new bytes in its contents
length_body : (pre new post : List ℕ) → length (pre ++ (new ++ post)) ≡ length (pre ++ post) + length new
length_body pre new post = omega (arith, length-append pre (new ++ post), length-append new post, length-append pre post)

pub length_new : (fs : List Frame) (pre new post : List ℕ) (more : ℕ) → length new ≡ more → length (plug fs (pre ++ (new ++ post))) ≡ reach fs (length (pre ++ post) + more)
length_new fs pre new post more e = length_plug fs (pre ++ (new ++ post)) ∙ ap (reach fs) (length_body pre new post ∙ ap (λ (x : ℕ). length (pre ++ post) + x) e)

pub length_appended : (fs : List Frame) (body new : List ℕ) (more : ℕ) → length new ≡ more → length (plug fs (body ++ new)) ≡ reach fs (length body + more)
length_appended fs body new more e = length_plug fs (body ++ new) ∙ ap (reach fs) (length-append body new ∙ ap (λ (x : ℕ). length body + x) e)

-- it is longer than the file by the new bytes, at least
pub new_adds : (file path : List ℕ) (fs : List Frame) (pre new post : List ℕ) → Encloses file path fs (pre ++ post) →
    length file + length new ≤ length (plug fs (pre ++ (new ++ post)))
new_adds file path fs pre new post e = omega (arith, length_new fs pre new post (length new) refl, total_most file path (length new) fs (pre ++ post) e)

-- and as long as they are
pub new_least : (fs : List Frame) (pre new post : List ℕ) → length new ≤ length (plug fs (pre ++ (new ++ post)))
new_least fs pre new post = omega (arith, length_new fs pre new post (length new) refl, reach_adds fs (length (pre ++ post)) (length new))

-- the innermost contents end at the end of the file, or where their header says
pub end_none : (file path : List ℕ) (fs : List Frame) (body : List ℕ) → length path ≡ 0 → Encloses file path fs body → length file ≡ start fs (length body) + length body
end_none file path [] body l e = ap length e.whole ∙ omega arith
end_none file path (f ∷ fs) body l e = absurd (omega (arith, ap length e.here))

pub end_some : (file rest : List ℕ) (place : ℕ) (gs : List Frame) (body : List ℕ) (h : Header) → Turn file rest place gs (length body) body → header_of (drop place file) ≡ Ok h →
    (place + (h.head + h.size) ≡ start gs (length body) + length body) × (place + (h.head + h.size) ≤ length file)
end_some file rest place gs body h t e =
    let hs = same_header (header_of (drop place file)) h t.f (length body) e t.header in (
      omega (
        arith,
        hs.1,
        hs.2,
        t.place_is,
        ap (λ (x : List Frame). start x (length body)) t.is,
        length-append (left t.fs (around t.f (length body))) t.f.before,
        length_left t.fs (around t.f (length body)),
      ),
      omega (arith, hs.1, hs.2, t.ends),
    )

-- the end of contents is a place between them and nothing
pub at_end : (file path : List ℕ) (fs : List Frame) (body : List ℕ) (at : ℕ) → at ≡ start fs (length body) + length body → Encloses file path fs body → Spot file path at fs body []
at_end file path fs body at q e =
    let n : body ≡ body ++ [] = sym (append-nil body) in
    record {
      encloses = subst (λ (x : List ℕ). Encloses file path fs x) n e;
      cut = q ∙ ap (λ (x : List ℕ). start fs (length x) + length body) n;
    }

-- nothing changes where what is put in is too long
pub refused_long : (g : GrowingFile) (fs : List Frame) (pre new post joined : List ℕ) (r : Result ℕ Full) (d e : Full) → r ≡ Err d → d ≡ e → Err e ≡ short (length joined) →
    length joined ≤ length new → Changed g g r (plug fs (pre ++ (new ++ post)))
refused_long g fs pre new post joined r d e is same q l =
    let over = short_not e (length joined) q in
    let file : List ℕ = plug fs (pre ++ (new ++ post)) in
    let long : 65535 < length file = omega (arith, over.1, new_least fs pre new post) in
    let refusal : Changed g g (Err TooLong) file = record { answer = too_long (length g.buffer.now) (length file) long; buffer = refl; end = refl } in
    subst (λ (x : Result ℕ Full). Changed g g x file) (sym (is ∙ ap {B = Result ℕ Full} Err (same ∙ over.0))) refusal

-- a file into which new bytes are put, at a place between two elements
module _ (g : GrowingFile) (path : List ℕ) (at : ℕ) (new : List ℕ) (fs : List Frame) (pre post : List ℕ) (s : Spot (file_in g) path at fs pre post) where
  abbrev pub Grown : List ℕ
  Grown = plug fs (pre ++ (new ++ post))

  abbrev size : length (file_in g) ≡ g.end
  size = length-take-le g.end g.buffer.now g.within

  pub at_within : at ≤ g.end
  at_within =
      omega (arith, size, s.cut, ap length s.encloses.whole, length_plug fs (pre ++ post), reach_is fs (length (pre ++ post)), length-append pre post)

  pub grown_least : g.end + length new ≤ length Grown
  grown_least = omega (arith, size, new_adds (file_in g) path fs pre new post s.encloses)

  -- the headers around it are stale
  pub grown_stale : (mid : List ℕ) (end more : ℕ) → Spliced g.buffer.now mid g.end at 0 new → more ≡ length new → end ≡ g.end + more →
      Stale (take end mid) path more fs (length (pre ++ post)) (pre ++ (new ++ post))
  grown_stale mid end more p m e =
      let L : List ℕ = left fs (length (pre ++ post)) in
      let file : file_in g ≡ (L ++ pre) ++ (post ++ right fs) = s.encloses.whole ∙ plug_stale fs (pre ++ post) ∙ simp append_assoc in
      let len : length (L ++ pre) ≡ at = omega (arith, length-append L pre, length_left fs (length (pre ++ post)), s.cut) in
      let a : take at g.buffer.now ≡ L ++ pre = sym (take-take at g.end g.buffer.now at_within) ∙ ap (take at) file ∙ take_at (L ++ pre) (post ++ right fs) at len in
      let d : drop (at + 0) (file_in g) ≡ post ++ right fs = ap (drop (at + 0)) file ∙ drop_at (L ++ pre) (post ++ right fs) (at + 0) (omega (arith, len)) in
      let k : end ≡ g.end + (length new - 0) = omega arith in
      record {
        whole =
            ap (λ (x : ℕ). take x mid) k ∙ p.file ∙ ap (λ (x : List ℕ). x ++ (new ++ drop (at + 0) (file_in g))) a
            ∙ ap (λ (x : List ℕ). (L ++ pre) ++ (new ++ x)) d ∙ simp append_assoc;
        here = s.encloses.here;
        low = s.encloses.low;
        grown = length_body pre new post ∙ ap (λ (x : ℕ). length (pre ++ post) + x) (sym m);
      }

  -- and once they are written anew, the file is the grown one
  pub grown_wrapped : {mid is : GrowingFile} → Wrapped mid is Grown → Spliced g.buffer.now mid.buffer.now g.end at 0 new → Wrapped g is Grown
  grown_wrapped {mid} {is} q p =
      let k : g.end + length new ≡ g.end + (length new - 0) = omega arith in
      let d : drop (g.end + length new) mid.buffer.now ≡ drop (g.end + length new) g.buffer.now =
      ap (λ (x : ℕ). drop x mid.buffer.now) k ∙ p.behind ∙ ap (λ (x : ℕ). drop x g.buffer.now) (sym k) in
      record {
        long = q.long;
        holds = q.holds ∙ ap (λ (x : List ℕ). Grown ++ x) (further (g.end + length new) is.end mid.buffer.now g.buffer.now (omega (arith, q.long, grown_least)) d);
      }

-- a file that has grown, told as an answer
pub wrapped_changed : (old new : GrowingFile) (file : List ℕ) → Fits old file → Wrapped old new file → Changed old new (Ok new.end) file
wrapped_changed old new file f w = record {
  answer = fits (length old.buffer.now) new.end (length file) w.long f.short f.room;
  buffer = w.holds;
  end = refl;
}

module _ (g : GrowingFile) (path bytes joined : List ℕ) (room size r : ℕ) (fs : List Frame) (b : bytes ≡ file_in g) (m : room ≡ length g.buffer.now) (q : Ok size ≡ short (length joined)) where
  -- what was measured fits
  measured : (new : List ℕ) → Ok r ≡ fitting room (length new) → Fits g new
  measured new f =
      let k = fitting_is room r (length new) f in
      record { short = k.1; room = omega (arith, k.2, m) }

  pub append_fits : (body : List ℕ) → Encloses (file_in g) path fs body →
      ((fs : List Frame) (body new : List ℕ) → Encloses bytes path fs body → length new ≡ size → Ok r ≡ fitting room (length (plug fs (body ++ new)))) → Fits g (plug fs (body ++ (joined ++ [])))
  append_fits body e f =
      subst (λ (x : List ℕ). Fits g (plug fs (body ++ x))) (sym (append-nil joined))
      (measured (plug fs (body ++ joined)) (f fs body joined (subst (λ (x : List ℕ). Encloses x path fs body) (sym b) e) (sym (short_is size (length joined) q).0)))

  pub field_fits : (pre post : List ℕ) (tag : ℕ) → Encloses (file_in g) path fs (pre ++ post) →
      ((fs : List Frame) (pre post new : List ℕ) (tag : ℕ) → Encloses bytes path fs (pre ++ post) → length new ≡ size → Ok r ≡ fitting room (length (plug fs (pre ++ (framed tag new ++ post))))) →
      Fits g (plug fs (pre ++ (framed tag joined ++ post)))
  field_fits pre post tag e f =
      measured (plug fs (pre ++ (framed tag joined ++ post)))
      (f fs pre post joined tag (subst (λ (x : List ℕ). Encloses x path fs (pre ++ post)) (sym b) e) (sym (short_is size (length joined) q).0))

-- a file is short that may still grow
pub still_short_append : (file path joined : List ℕ) (fs : List Frame) (body : List ℕ) → Encloses file path fs body → length (plug fs (body ++ (joined ++ []))) ≤ 65535 → length file ≤ 65535
still_short_append file path joined fs body e l =
    omega (arith, l, length_appended fs body (joined ++ []) (length (joined ++ [])) refl, total_most file path (length (joined ++ [])) fs body e)

-- a header that was written first, and the contents behind it
pub field_written : (tag size r : ℕ) (area was joined : List ℕ) → Ok size ≡ short (length joined) → r ≡ 0 + header_size_of size → area ≡ overlay 0 (header_bytes tag size) was → take r area ++ joined ≡ framed tag joined
field_written tag size r area was joined q e a =
    let head : take r area ≡ header_bytes tag size = ap (λ (x : ℕ). take x area) e ∙ ap (take (0 + header_size_of size)) a ∙ overlay_front 0 (header_bytes tag size) was (omega arith) in
    ap (λ (x : List ℕ). x ++ joined) head ∙ ap (λ (x : ℕ). header_bytes tag x ++ joined) (short_is size (length joined) q).0

-- appending is putting in before nothing
pub changed_end : {old new : GrowingFile} {r : Result ℕ Full} (fs : List Frame) (body bytes : List ℕ) → Changed old new r (plug fs (body ++ (bytes ++ []))) → Changed old new r (plug fs (body ++ bytes))
changed_end {old} {new} {r} fs body bytes c = subst (λ (x : List ℕ). Changed old new r (plug fs (body ++ x))) (append-nil bytes) c
