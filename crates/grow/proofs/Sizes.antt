-- The new length, one frame after the other.
use Rattle.std.proofs.Common.{◌≡◌, ℕ, ◌+◌, ◌-◌, ◌<◌, ◌≤◌, true, List, [], ◌∷◌, length, get_or, drop, is_ok, Ok, Err, Result, sym, ap, ◌∙◌, subst, arith}
use Rattle.std.proofs.lemmas.List.{drop_more, drop_all}
use Rattle.der.specs.declared.header.Header.{Header}
use Rattle.der.specs.declared.cause.Cause.{Cause}
use Rattle.der.specs.Head.{header_of}
use Rattle.der.specs.Headers.{header_size_of}
use Rattle.grow.specs.Frames.{Frame, wrap, around, reach}
use Rattle.grow.specs.Changes.{Encloses}
use Rattle.grow.proofs.Plugs.{header_grows, length_wrap, length_plug, reach_adds, reach_least}
use Rattle.grow.proofs.Turns.{Headed, Turn, turn, enclosed_stale, passed}

pub same_header : (x : Result Header Cause) (h : Header) (f : Frame) (n : ℕ) → x ≡ Ok h → x ≡ Headed f n → (h.tag ≡ f.tag) × (h.head ≡ header_size_of n) × (h.size ≡ n)
same_header x h f n p q =
    let e : ◌≡◌ {A = Result Header Cause} (Ok h) (Headed f n) = sym p ∙ q in (
      ap (λ (r : Result Header Cause). elim r [ Ok g ↦ g.tag | Err c ↦ 0 ]) e,
      ap (λ (r : Result Header Cause). elim r [ Ok g ↦ g.head | Err c ↦ 0 ]) e,
      ap (λ (r : Result Header Cause). elim r [ Ok g ↦ g.size | Err c ↦ 0 ]) e,
    )

-- what is known of the file before each turn: its contents grow by `grow` bytes, and then the file has `total`
abbrev pub Ahead : List ℕ → List ℕ → ℕ → ℕ → Type 0
Ahead file rest grow total = (gs : List Frame) × (b : List ℕ) × Encloses file rest gs b × (reach gs (length b + grow) ≡ total)

pub turn_of : (file path : List ℕ) (i : ℕ) (gs : List Frame) (b : List ℕ) → i < length path → length file ≤ 65535 → Encloses file (drop i path) gs b →
    Turn file (drop (i + 1) path) (get_or path i 0) gs (length b) b
turn_of file path i gs b l s e =
    turn file (drop (i + 1) path) (get_or path i 0) 0 gs (length b) b s
    (enclosed_stale file (get_or path i 0 ∷ drop (i + 1) path) gs b (subst (λ (p : List ℕ). Encloses file p gs b) (drop_more path i 0 l) e))

module _ (file path : List ℕ) (i grow total : ℕ) (l : i < length path) (s : length file ≤ 65535) (a : Ahead file (drop i path) grow total) where
  abbrev t : Turn file (drop (i + 1) path) (get_or path i 0) a.0 (length a.1) a.1
  t = turn_of file path i a.0 a.1 l s a.2

  pub ahead_place : get_or path i 0 ≤ length file
  ahead_place = omega (arith, t.ends)

  pub ahead_header : is_ok (header_of (drop (get_or path i 0) file)) ≡ true
  ahead_header = ap is_ok t.header

  module _ (h : Header) (e : header_of (drop (get_or path i 0) file) ≡ Ok h) where
    abbrev hs : (h.tag ≡ t.f.tag) × (h.head ≡ header_size_of (length a.1)) × (h.size ≡ length a.1)
    hs = same_header (header_of (drop (get_or path i 0) file)) h t.f (length a.1) e t.header

    pub ahead_size : h.size ≤ length file
    ahead_size = omega (arith, hs.2, t.ends)

    pub ahead_most : h.size + grow ≤ total
    ahead_most = omega (arith, hs.2, reach_least a.0 (length a.1 + grow), a.3)

    pub ahead_on : Ahead file (drop (i + 1) path) (grow + (header_size_of (h.size + grow) - h.head)) total
    ahead_on =
        let b : List ℕ = a.1 in
        let k : header_size_of (h.size + grow) ≡ header_size_of (length b + grow) = ap (λ (x : ℕ). header_size_of (x + grow)) hs.2 in
        let m : length (wrap t.f b) + (grow + (header_size_of (h.size + grow) - h.head)) ≡ around t.f (length b + grow) =
        omega (arith, length_wrap t.f b, hs.1, k, header_grows (length b) (length b + grow) (omega arith)) in (
          t.fs,
          wrap t.f b,
          passed file (drop (i + 1) path) (get_or path i 0) a.0 b
              (subst (λ (p : List ℕ). Encloses file p a.0 b) (drop_more path i 0 l) a.2) t,
          ap (reach t.fs) m ∙ ap (λ (x : List Frame). reach x (length b + grow)) (sym t.is) ∙ a.3,
        )

end_of : (file : List ℕ) (grow total : ℕ) (gs : List Frame) (b : List ℕ) → Encloses file [] gs b → reach gs (length b + grow) ≡ total → length file + grow ≡ total
end_of file grow total [] b e r = ap (λ (x : List ℕ). length x + grow) e.whole ∙ r
end_of file grow total (f ∷ gs) b e r = absurd (omega (arith, ap length e.here))

pub ahead_end : (file path : List ℕ) (i grow total : ℕ) → length path ≤ i → Ahead file (drop i path) grow total → length file + grow ≡ total
ahead_end file path i grow total l a =
    end_of file grow total a.0 a.1 (subst (λ (p : List ℕ). Encloses file p a.0 a.1) (drop_all i path l) a.2) a.3

-- the file grows by as many bytes as its contents, at least
pub total_most : (file path : List ℕ) (more : ℕ) (fs : List Frame) (body : List ℕ) → Encloses file path fs body → length file + more ≤ reach fs (length body + more)
total_most file path more fs body e = omega (arith, ap length e.whole, length_plug fs body, reach_adds fs (length body) more)
