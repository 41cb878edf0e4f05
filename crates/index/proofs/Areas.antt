-- Writing into an area or a table, one part behind another.
use Rattle.std.proofs.Common.{◌≡◌, ℕ, ◌+◌, ◌-◌, ◌<◌, ◌≤◌, List, [], ◌∷◌, ◌++◌, length, take, drop, set, sym, refl, ap, ◌∙◌, arith, drop-set-lt}
use borrow.Rule.Slice.PartMut.{put_mid}
use Rattle.std.proofs.lemmas.List.{append_assoc, append-nil, drop-drop, length-append, take-append-drop, take_more_set}
use Rattle.std.proofs.lemmas.Slice.{take-put_mid, drop-put_mid}
use Rattle.areas.specs.Overlays.{Overlaid}
use Rattle.areas.proofs.Overlays.{overlay_front, overlay_rest}
use Rattle.index.specs.Puts.{Put, Written}

module _ {X : Type 0} where
  -- a part of the area holds the new ones
  pub part_put : (area new part : List X) (at end : ℕ) → end ≡ at + length new → end ≤ length area → part ≡ new → Put area (put_mid at (end - at) area part) at new end
  part_put area new part at end e l q =
      let n : length part ≡ length new = ap length q in
      record {
        ends = e;
        front = take-put_mid at (end - at) area part end (omega arith) (omega arith) ∙ ap (λ (x : List X). take at area ++ x) q;
        rest = drop-put_mid at (end - at) area part end (omega arith) (omega arith) (omega arith);
      }

  -- one is set
  pub set_put : (table : List X) (at : ℕ) (x : X) → at < length table → Put table (set table at x) at (x ∷ []) (at + 1)
  set_put table at x l = record { ends = omega arith; front = take_more_set table at x l; rest = drop-set-lt (at + 1) table at x (omega arith) }

  -- nothing is put
  pub put_none : (area : List X) (at : ℕ) → Put area area at [] at
  put_none area at = record { ends = omega arith; front = sym (append-nil (take at area)); rest = refl }

  -- some, and others behind them
  pub put_then : (was mid is xs ys : List X) (at middle end : ℕ) → Put was mid at xs middle → Put mid is middle ys end → Put was is at (xs ++ ys) end
  put_then was mid is xs ys at middle end p q =
      let e : end ≡ middle + length ys = q.ends in
      record {
        ends = omega (arith, p.ends, q.ends, length-append xs ys);
        front = q.front ∙ ap (λ (x : List X). x ++ ys) p.front ∙ append_assoc (take at was) xs ys;
        rest =
            q.rest ∙ ap (λ (n : ℕ). drop n mid) e ∙ sym (drop-drop (length ys) middle mid) ∙ ap (drop (length ys)) p.rest ∙ drop-drop (length ys) middle was
            ∙ ap (λ (n : ℕ). drop n was) (sym e);
      }

  -- the same under another name
  pub put_same : (was is xs ys : List X) (at end : ℕ) → xs ≡ ys → Put was is at xs end → Put was is at ys end
  put_same was is xs ys at end e p = record {
    ends = p.ends ∙ ap (λ (x : List X). at + length x) e;
    front = p.front ∙ ap (λ (x : List X). take at was ++ x) e;
    rest = p.rest;
  }

  -- from the first place on
  pub put_whole : (was is new : List X) (end : ℕ) → Put was is 0 new end → Written new was is end
  put_whole was is new end p = record {
    counted = omega (arith, p.ends);
    front = sym (take-append-drop end is) ∙ ap (λ (x : List X). x ++ drop end is) p.front ∙ ap (λ (x : List X). new ++ x) p.rest;
  }

-- what is put over an area where it fits, in words of the area
pub overlay_put : (was is new : List ℕ) (at end : ℕ) → Overlaid was is at new end → at + length new ≤ length was → Put was is at new end
overlay_put was is new at end put l =
    let within : at ≤ length was = omega arith in
    let (e, q) = put.fits l in
    record {
      ends = e;
      front = ap (λ (n : ℕ). take n is) e ∙ ap (take (at + length new)) q ∙ overlay_front at new was within;
      rest = ap (λ (n : ℕ). drop n is) e ∙ ap (drop (at + length new)) q ∙ overlay_rest at new was within ∙ ap (λ (n : ℕ). drop n was) (sym e);
    }
