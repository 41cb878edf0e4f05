-- Headers that are written anew, one frame after the other.
use Rattle.std.proofs.Common.{◌≡◌, ℕ, ◌+◌, ◌-◌, ◌<◌, ◌≤◌, true, List, [], ◌∷◌, ◌++◌, length, get_or, take, drop, is_ok, Ok, sym, refl, ap, ◌∙◌, subst, arith}
use Rattle.std.proofs.lemmas.List.{drop_more, drop_all, drop-drop, length-take-le, length-append, length-drop, append-nil, take-append-drop}
use Rattle.der.specs.declared.header.Header.{Header}
use Rattle.der.specs.Head.{header_of}
use Rattle.der.specs.Headers.{header_size_of}
use Rattle.der.specs.Trees.{header_bytes}
use Rattle.grow.specs.Frames.{Frame, wrap, plug, around}
use Rattle.grow.specs.declared.file.GrowingFile.{GrowingFile}
use Rattle.grow.specs.Changes.{Stale, Wrapped, file_in}
use Rattle.grow.proofs.Plugs.{header_grows, length_plug, stale_most, reach_least}
use Rattle.grow.proofs.Turns.{Turn, turn, renewed}
use Rattle.grow.proofs.Sizes.{same_header}

-- what is known of the file before each turn: its contents have grown by `grow` bytes, and in new headers it is `whole`
abbrev pub Behind : List ℕ → List ℕ → ℕ → List ℕ → Type 0
Behind file rest grow whole = (gs : List Frame) × (k : ℕ) × (b : List ℕ) × Stale file rest grow gs k b × (plug gs b ≡ whole)

pub behind_length : (file rest : List ℕ) (grow : ℕ) (whole : List ℕ) → Behind file rest grow whole → length file ≤ length whole
behind_length file rest grow whole a =
    omega (arith, ap length a.3.whole, stale_most a.0 a.1 grow a.2 a.3.grown, length_plug a.0 a.2, ap length a.4)

pub still_short : (file rest : List ℕ) (grow : ℕ) (whole : List ℕ) → Behind file rest grow whole → length whole ≤ 65535 → length file ≤ 65535
still_short file rest grow whole a l = omega (arith, behind_length file rest grow whole a)

module _ (file path : List ℕ) (i grow : ℕ) (whole : List ℕ) (l : i < length path) (s : length file ≤ 65535) (a : Behind file (drop i path) grow whole) where
  abbrev next : Stale file (get_or path i 0 ∷ drop (i + 1) path) grow a.0 a.1 a.2
  next = subst (λ (p : List ℕ). Stale file p grow a.0 a.1 a.2) (drop_more path i 0 l) a.3

  abbrev t : Turn file (drop (i + 1) path) (get_or path i 0) a.0 a.1 a.2
  t = turn file (drop (i + 1) path) (get_or path i 0) grow a.0 a.1 a.2 s next

  place_within : get_or path i 0 ≤ length file
  place_within = omega (arith, t.ends)

  -- the file is read as `bytes`
  module _ (bytes : List ℕ) (b : bytes ≡ file) where
    pub behind_place : get_or path i 0 ≤ length bytes
    behind_place = omega (arith, place_within, ap length b)

    pub behind_header : is_ok (header_of (drop (get_or path i 0) bytes)) ≡ true
    behind_header = rw b (ap is_ok t.header)

    module _ (h : Header) (e : header_of (drop (get_or path i 0) bytes) ≡ Ok h) where
      abbrev hs : (h.tag ≡ t.f.tag) × (h.head ≡ header_size_of a.1) × (h.size ≡ a.1)
      hs = same_header (header_of (drop (get_or path i 0) file)) h t.f a.1 (ap (λ (x : List ℕ). header_of (drop (get_or path i 0) x)) (sym b) ∙ e) t.header

      pub behind_ends : get_or path i 0 + h.head ≤ length file
      behind_ends = omega (arith, hs.1, t.ends)

      pub behind_grows : h.head ≤ header_size_of (h.size + grow)
      behind_grows = omega (arith, hs.1, header_grows a.1 (h.size + grow) (omega (arith, hs.2)))

      pub behind_most : h.size + grow ≤ length whole
      behind_most = omega (arith, hs.2, a.3.grown, reach_least a.0 (length a.2), length_plug a.0 a.2, ap length a.4)

      pub behind_on : (file' : List ℕ) → file' ≡ take (get_or path i 0) file ++ (header_bytes h.tag (h.size + grow) ++ drop (get_or path i 0 + h.head) file) →
          Behind file' (drop (i + 1) path) (grow + (header_size_of (h.size + grow) - h.head)) whole
      behind_on file' q =
          let place : ℕ = get_or path i 0 in
          let k : ℕ = a.1 in
          let q' : file' ≡ take place file ++ (header_bytes t.f.tag (k + grow) ++ drop (place + header_size_of k) file) =
          q
          ∙ ap (λ (x : ℕ). take place file ++ (header_bytes x (h.size + grow) ++ drop (place + h.head) file)) hs.0
          ∙ ap (λ (x : ℕ). take place file ++ (header_bytes t.f.tag (x + grow) ++ drop (place + h.head) file)) hs.2
          ∙ ap (λ (x : ℕ). take place file ++ (header_bytes t.f.tag (k + grow) ++ drop (place + x) file)) hs.1 in
          let m : grow + (header_size_of (k + grow) - header_size_of k) ≡ grow + (header_size_of (h.size + grow) - h.head) =
          omega (arith, hs.1, ap (λ (x : ℕ). header_size_of (x + grow)) hs.2) in (
            t.fs,
            around t.f k,
            wrap t.f a.2,
            subst (λ (x : ℕ). Stale file' (drop (i + 1) path) x t.fs (around t.f k) (wrap t.f a.2)) m
                (renewed file file' (drop (i + 1) path) place grow a.0 k a.2 next t q'),
            ap (λ (x : List Frame). plug x a.2) (sym t.is) ∙ a.4,
          )

      pub behind_room : length file + (header_size_of (h.size + grow) - h.head) ≤ length whole
      behind_room =
          let place : ℕ = get_or path i 0 in
          let hd : List ℕ = header_bytes h.tag (h.size + grow) in
          let file' : List ℕ = take place file ++ (hd ++ drop (place + h.head) file) in
          omega (
            arith,
            behind_length file' _ _ whole (behind_on file' refl),
            length-append (take place file) (hd ++ drop (place + h.head) file),
            length-append hd (drop (place + h.head) file),
            length-take-le place file place_within,
            length-drop (place + h.head) file,
            behind_ends,
            behind_grows,
          )

end_of : (file : List ℕ) (grow : ℕ) (whole : List ℕ) (gs : List Frame) (k : ℕ) (b : List ℕ) → Stale file [] grow gs k b → plug gs b ≡ whole → file ≡ whole
end_of file grow whole [] k b e r = e.whole ∙ append-nil b ∙ r
end_of file grow whole (f ∷ gs) k b e r = absurd (omega (arith, ap length e.here))

pub behind_end : (file path : List ℕ) (i grow : ℕ) (whole : List ℕ) → length path ≤ i → Behind file (drop i path) grow whole → file ≡ whole
behind_end file path i grow whole l a =
    end_of file grow whole a.0 a.1 a.2 (subst (λ (p : List ℕ). Stale file p grow a.0 a.1 a.2) (drop_all i path l) a.3) a.4

-- what is behind stays behind
pub further : (m n : ℕ) (xs ys : List ℕ) → m ≤ n → drop m xs ≡ drop m ys → drop n xs ≡ drop n ys
further m n xs ys l e =
    let k : n ≡ m + (n - m) = omega arith in
    ap (λ (x : ℕ). drop x xs) k ∙ sym (drop-drop (n - m) m xs) ∙ ap (drop (n - m)) e ∙ drop-drop (n - m) m ys ∙ ap (λ (x : ℕ). drop x ys) (sym k)

pub wrapped : (old new : GrowingFile) (whole : List ℕ) → file_in new ≡ whole → drop new.end new.buffer.now ≡ drop new.end old.buffer.now → Wrapped old new whole
wrapped old new whole t d = record {
  long = sym (length-take-le new.end new.buffer.now new.within) ∙ ap length t;
  holds = sym (take-append-drop new.end new.buffer.now) ∙ ap (λ (x : List ℕ). x ++ drop new.end new.buffer.now) t ∙ ap (λ (x : List ℕ). whole ++ x) d;
}
