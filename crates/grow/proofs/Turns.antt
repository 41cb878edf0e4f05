-- One frame on: its header as it stands, and what is left when it is written anew.
use Rattle.std.proofs.Common.{◌≡◌, ℕ, ◌+◌, ◌-◌, ◌≤◌, List, [], ◌∷◌, ◌++◌, length, get_or, take, drop, Ok, Result, sym, refl, ap, ◌∙◌, arith}
use Rattle.std.proofs.lemmas.List.{append_assoc, take_at, drop_at, length-append}
use Rattle.der.specs.declared.header.Header.{Header}
use Rattle.der.specs.declared.cause.Cause.{Cause}
use Rattle.der.specs.Head.{header_of}
use Rattle.der.specs.Headers.{header_size_of}
use Rattle.der.specs.Trees.{header_bytes}
use Rattle.der.proofs.Unique.{of_head}
use Rattle.grow.specs.Frames.{Frame, wrap, plug, around, places, OneByteTags, left, right}
use Rattle.grow.specs.Changes.{Stale, Encloses}
use Rattle.grow.proofs.Plugs.{header_grows, length_wrap, length_left, plug_stale, stale_at, stale_on}

-- what the header of a frame says
abbrev pub Headed : Frame → ℕ → Result Header Cause
Headed f n = Ok (record { tag = f.tag; head = header_size_of n; size = n })

-- the innermost frame, whose tag stands at `place`, and what is around it
pub record Turn (file rest : List ℕ) (place : ℕ) (gs : List Frame) (n : ℕ) (body : List ℕ) : Type 0 where
  pub f : Frame
  pub fs : List Frame
  pub is : gs ≡ f ∷ fs
  pub header : header_of (drop place file) ≡ Headed f n
  pub place_is : place ≡ length (left fs (around f n) ++ f.before)
  pub rest_is : rest ≡ places fs (around f n)
  pub low : OneByteTags fs
  pub cut : file ≡ (left fs (around f n) ++ f.before) ++ (header_bytes f.tag n ++ (body ++ (f.after ++ right fs)))
  pub ends : place + header_size_of n + length body ≤ length file

pub enclosed_stale : (file path : List ℕ) (fs : List Frame) (body : List ℕ) → Encloses file path fs body → Stale file path 0 fs (length body) body
enclosed_stale file path fs body e = record { whole = e.whole ∙ plug_stale fs body; here = e.here; low = e.low; grown = omega arith }

pub turn : (file rest : List ℕ) (place more : ℕ) (gs : List Frame) (n : ℕ) (body : List ℕ) → length file ≤ 65535 →
    Stale file (place ∷ rest) more gs n body → Turn file rest place gs n body
turn file rest place more [] n body l s = absurd (omega (arith, ap length s.here))
turn file rest place more (f ∷ fs) n body l s =
    let lead : List ℕ = left fs (around f n) ++ f.before in
    let hd : List ℕ = header_bytes f.tag n in
    let tail : List ℕ = body ++ (f.after ++ right fs) in
    let at : place ≡ length lead =
    ap (λ (p : List ℕ). get_or p 0 0) s.here ∙ omega (arith, length-append (left fs (around f n)) f.before, length_left fs (around f n)) in
    let c : file ≡ lead ++ (hd ++ tail) = s.whole ∙ stale_at f fs n body in
    let lf : length file ≡ length lead + (header_size_of n + (length body + length (f.after ++ right fs))) =
    ap length c ∙ omega (arith, length-append lead (hd ++ tail), length-append hd tail, length-append body (f.after ++ right fs)) in
    record {
      f = f;
      fs = fs;
      is = refl;
      header =
          ap (λ (x : List ℕ). header_of (drop place x)) c
          ∙ ap header_of (drop_at lead (hd ++ tail) place (sym at))
          ∙ of_head f.tag n tail s.low.0 (omega (arith, s.grown)) (omega (arith, s.grown, length-append body (f.after ++ right fs)));
      place_is = at;
      rest_is = ap (drop 1) s.here;
      low = s.low.1;
      cut = c;
      ends = omega arith;
    }

-- the frame is left behind, unchanged
pub passed : (file rest : List ℕ) (place : ℕ) (gs : List Frame) (body : List ℕ) → Encloses file (place ∷ rest) gs body →
    (t : Turn file rest place gs (length body) body) → Encloses file rest t.fs (wrap t.f body)
passed file rest place gs body e t = record {
  whole = e.whole ∙ ap (λ (x : List Frame). plug x body) t.is;
  here = t.rest_is ∙ ap (places t.fs) (sym (length_wrap t.f body));
  low = t.low;
}

-- the frame's header is written anew
pub renewed : (file file' rest : List ℕ) (place more : ℕ) (gs : List Frame) (n : ℕ) (body : List ℕ) → Stale file (place ∷ rest) more gs n body →
    (t : Turn file rest place gs n body) →
    file' ≡ take place file ++ (header_bytes t.f.tag (n + more) ++ drop (place + header_size_of n) file) →
    Stale file' rest (more + (header_size_of (n + more) - header_size_of n)) t.fs (around t.f n) (wrap t.f body)
renewed file file' rest place more gs n body s t e =
    let f : Frame = t.f in
    let fs : List Frame = t.fs in
    let lead : List ℕ = left fs (around f n) ++ f.before in
    let hd : List ℕ = header_bytes f.tag n in
    let tail : List ℕ = body ++ (f.after ++ right fs) in
    let a : take place file ≡ lead = ap (take place) t.cut ∙ take_at lead (hd ++ tail) place (sym t.place_is) in
    let b : drop (place + header_size_of n) file ≡ tail =
    ap (drop (place + header_size_of n)) (t.cut ∙ sym (append_assoc lead hd tail))
    ∙ drop_at (lead ++ hd) tail (place + header_size_of n) (omega (arith, length-append lead hd, t.place_is)) in
    record {
      whole =
          e ∙ ap (λ (x : List ℕ). x ++ (header_bytes f.tag (n + more) ++ drop (place + header_size_of n) file)) a
          ∙ ap (λ (x : List ℕ). lead ++ (header_bytes f.tag (n + more) ++ x)) b
          ∙ ap (λ (x : ℕ). lead ++ (header_bytes f.tag x ++ tail)) (sym s.grown)
          ∙ stale_on f fs n body;
      here = t.rest_is;
      low = t.low;
      grown = length_wrap f body ∙ ap (around f) s.grown ∙ omega (arith, header_grows n (n + more) (omega arith));
    }
