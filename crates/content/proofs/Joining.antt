-- The joined contents of elements, one element at a time.
use Rattle.std.proofs.Common.{◌≡◌, ℕ, zero, suc, ◌+◌, ◌-◌, ◌<◌, ◌≤◌, List, [], ◌++◌, length, take, drop, Ok, Err, Result, sym, refl, ap, ◌∙◌, arith}
use Rattle.der.specs.declared.cause.Cause.{Cause}
use Rattle.der.specs.declared.fault.Fault.{Fault}
use Rattle.der.specs.declared.header.Header.{Header}
use Rattle.der.specs.declared.span.Span.{Span}
use Rattle.der.specs.Head.{header_of}
use Rattle.der.specs.Spans.{part, spanned, element_of, Handed}
use Rattle.der.proofs.Parts.{length_part, header_ends}
use Rattle.content.specs.Segments.{if_element, joined_first, joined_in}

stop : Result Span Fault → ℕ
stop (Ok s) = s.end
stop (Err f) = 0

-- an element has a byte at least, and room
by_header_lem : (file : List ℕ) (at end : ℕ) (s : Span) (r : Result Header Cause) → header_of (part file at end) ≡ r → spanned at r ≡ Ok s → (at < s.end) × (s.end ≤ end) × (s.end ≤ length file)
unfolding stop
by_header_lem file at end s (Ok h) q e =
    let w = header_ends file at end h q in
    let p : at + h.head + h.size ≡ s.end = ap stop e in
    (omega (arith, w.0), omega (arith, w.1), omega (arith, w.2))
by_header_lem file at end s (Err c) q e = absurd (let z : ◌≡◌ {A = ℕ} 0 1 = cc in omega arith)

pub element_ahead : (file : List ℕ) (at end : ℕ) (s : Span) → element_of file at end ≡ Ok s → (at < s.end) × (s.end ≤ end) × (s.end ≤ length file)
element_ahead file at end s e = by_header_lem file at end s (header_of (part file at end)) refl e

module _ (file : List ℕ) (end : ℕ) where
  -- the first element's contents, and those of the others
  abbrev onward : ℕ → Span → List ℕ
  onward most s = part file s.body s.end ++ joined_first most file s.end end

  -- behind the end there is nothing
  nothing_joined : (most at : ℕ) → end ≤ at → joined_first most file at end ≡ []
  nothing_joined zero at l = refl
  nothing_joined (suc most) at l =
      let z : end - at ≡ 0 = omega arith in
      ap (λ (n : ℕ). if_element (spanned at (header_of (take n (drop at file)))) (onward most)) z

  same_onward : (most most' at : ℕ) (r : Result Span Fault) → element_of file at end ≡ r →
      ((s : Span) → at < s.end → joined_first most file s.end end ≡ joined_first most' file s.end end) → if_element r (onward most) ≡ if_element r (onward most')
  same_onward most most' at (Ok s) q same = ap (λ (x : List ℕ). part file s.body s.end ++ x) (same s (element_ahead file at end s q).0)
  same_onward most most' at (Err f) q same = refl

  -- as many elements as there are bytes are all of them
  all_joined : (most most' at : ℕ) → end - at ≤ most → end - at ≤ most' → joined_first most file at end ≡ joined_first most' file at end
  all_joined zero most' at l l' = sym (nothing_joined most' at (omega arith))
  all_joined (suc most) zero at l l' = nothing_joined (suc most) at (omega arith)
  all_joined (suc most) (suc most') at l l' =
      same_onward most most' at (element_of file at end) refl (λ s a. all_joined most most' s.end (omega arith) (omega arith))

  pub joined_on : (at : ℕ) (s : Span) → element_of file at end ≡ Ok s → joined_in file at end ≡ part file s.body s.end ++ joined_in file s.end end
  joined_on at s e =
      let ahead = element_ahead file at end s e in
      let n : end - at ≡ suc (end - at - 1) = omega (arith, ahead.0, ahead.1) in
      ap (λ (n : ℕ). joined_first n file at end) n
      ∙ ap (λ (r : Result Span Fault). if_element r (onward (end - at - 1))) e
      ∙ ap (λ (x : List ℕ). part file s.body s.end ++ x) (all_joined (end - at - 1) (end - s.end) s.end (omega (arith, ahead.0)) (omega arith))

  by_none : (most at : ℕ) (f : Fault) → element_of file at end ≡ Err f → joined_first most file at end ≡ []
  by_none zero at f e = refl
  by_none (suc most) at f e = ap (λ (r : Result Span Fault). if_element r (onward most)) e

  pub nothing_left : (at : ℕ) → end ≤ at → joined_in file at end ≡ []
  nothing_left at l = nothing_joined (end - at) at l

  joined_none : (at : ℕ) (f : Fault) → element_of file at end ≡ Err f → joined_in file at end ≡ []
  joined_none at f e = by_none (end - at) at f e

-- the bytes and the end are those that a reader began with
same_element : (file bytes : List ℕ) (at end stop : ℕ) (r : Result Span Fault) → bytes ≡ file → stop ≡ end → element_of bytes at stop ≡ r → element_of file at end ≡ r
same_element file bytes at end stop r p q e = sym (ap (λ (x : List ℕ). element_of x at stop) p ∙ ap (element_of file at) q) ∙ e

-- the contents that are handed out, and what is left behind them
pub record Turn (file : List ℕ) (at end : ℕ) (contents : List ℕ) (after : ℕ) : Type 0 where
  pub ahead : at + length contents < after
  pub within : after ≤ length file
  pub joined : joined_in file at end ≡ contents ++ joined_in file after end

pub turn : (file bytes lent contents : List ℕ) (at end stop after : ℕ) (s : Span) → bytes ≡ file → stop ≡ end → Handed bytes at stop s after →
    lent ≡ bytes → contents ≡ part lent s.body s.end → Turn file at end contents after
turn file bytes lent contents at end stop after s p q h l e =
    let is : contents ≡ part file s.body s.end = e ∙ ap (λ (x : List ℕ). part x s.body s.end) (l ∙ p) in
    let size : length contents ≤ s.end - s.body = omega (arith, ap length is, length_part file s.body s.end) in
    let read : element_of file at end ≡ Ok s = same_element file bytes at end stop (Ok s) p q h.read in
    record {
      ahead = omega (arith, size, h.body, h.ends, h.behind);
      within = omega (arith, (element_ahead file at end s read).2, h.behind);
      joined =
          joined_on file end at s read
          ∙ ap (λ (x : List ℕ). x ++ joined_in file s.end end) (sym is) ∙ ap (λ (n : ℕ). contents ++ joined_in file n end) (sym h.behind);
    }

-- where nothing is handed out, nothing is left
pub no_turn : (file bytes : List ℕ) (at end stop : ℕ) (f : Fault) → bytes ≡ file → stop ≡ end → element_of bytes at stop ≡ Err f → joined_in file at end ≡ []
no_turn file bytes at end stop f p q e = joined_none file end at f (same_element file bytes at end stop (Err f) p q e)
