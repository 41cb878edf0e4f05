-- What an area holds once bytes are put into it.
use Rattle.std.proofs.Common.{◌≡◌, ℕ, ◌+◌, ◌≤◌, List, [], ◌++◌, length, take, drop, sym, ap, ◌∙◌, add-zero, arith}
use borrow.Rule.Slice.PartMut.{put_mid}
use Rattle.std.proofs.lemmas.List.{append_assoc, take-append-drop, drop-drop, drop_at, take_at, length-take-le, length-append}
use Rattle.areas.specs.Overlays.{overlay}

-- a part that is written is written over
pub written_over : (at k : ℕ) (area new part : List ℕ) → k ≡ length new → part ≡ new → put_mid at k area part ≡ overlay at new area
written_over at k area new part e q =
    ap (λ (x : List ℕ). take at area ++ (x ++ drop k (drop at area))) q
    ∙ ap (λ (x : List ℕ). take at area ++ (new ++ x)) (drop-drop k at area ∙ ap (λ (x : ℕ). drop (at + x) area) e)

-- nothing is written over nothing
pub overlay_none : (at : ℕ) (area : List ℕ) → area ≡ overlay at [] area
overlay_none at area = sym (take-append-drop at area) ∙ ap (λ (x : ℕ). take at area ++ drop x area) (sym (add-zero at))

module _ (at : ℕ) (new area : List ℕ) (l : at ≤ length area) where
  cut : length (take at area ++ new) ≡ at + length new
  cut = omega (arith, length-append (take at area) new, length-take-le at area l)

  whole : overlay at new area ≡ (take at area ++ new) ++ drop (at + length new) area
  whole = sym (append_assoc (take at area) new (drop (at + length new) area))

  -- what is written ends at its end
  pub overlay_front : take (at + length new) (overlay at new area) ≡ take at area ++ new
  overlay_front = ap (take (at + length new)) whole ∙ take_at (take at area ++ new) (drop (at + length new) area) (at + length new) cut

  -- and what is behind it stays
  pub overlay_rest : drop (at + length new) (overlay at new area) ≡ drop (at + length new) area
  overlay_rest = ap (drop (at + length new)) whole ∙ drop_at (take at area ++ new) (drop (at + length new) area) (at + length new) cut

-- bytes written behind others are written with them
pub overlay_more : (at : ℕ) (a b area : List ℕ) → at ≤ length area → overlay (at + length a) b (overlay at a area) ≡ overlay at (a ++ b) area
overlay_more at a b area l =
    let A : List ℕ = take at area in
    let sum : at + length a + length b ≡ at + length (a ++ b) = omega (arith, length-append a b) in
    let back : drop (at + length a + length b) (overlay at a area) ≡ drop (at + length (a ++ b)) area =
    sym (drop-drop (length b) (at + length a) (overlay at a area)) ∙ ap (drop (length b)) (overlay_rest at a area l) ∙ drop-drop (length b) (at + length a) area
    ∙ ap (λ (x : ℕ). drop x area) sum in
    ap (λ (x : List ℕ). x ++ (b ++ drop (at + length a + length b) (overlay at a area))) (overlay_front at a area l)
    ∙ ap (λ (x : List ℕ). (A ++ a) ++ (b ++ x)) back
    ∙ append_assoc A a (b ++ drop (at + length (a ++ b)) area)
    ∙ ap (λ (x : List ℕ). A ++ x) (sym (append_assoc a b (drop (at + length (a ++ b)) area)))
