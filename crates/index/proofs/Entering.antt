-- Entries put one behind another, one for each element that is read.
use Rattle.std.proofs.Common.{Some, None, ◌≡◌, ℕ, ◌+◌, ◌*◌, ◌<◌, ◌≤◌, List, [], ◌∷◌, ◌++◌, length, sym, refl, ap, ◌∙◌, subst, mul-le-mul_right, add-mul, arith}
use Rattle.std.proofs.lemmas.List.{append_assoc, append-nil}
use Rattle.der.specs.Trees.{Tree, Valid, encode, body_of}
use Rattle.der.proofs.Parts.{sound_of}
use Rattle.fields.proofs.Standing.{length_encode}
use Rattle.digest.specs.Took.{most}
use Rattle.stamp_model.specs.Indexes.{entry_tree}
use Rattle.der.specs.declared.element.Element.{Element}
use Rattle.index.specs.declared.elements.Elements.{Elements}
use Rattle.index.specs.Standing.{Stand}
use Rattle.index.specs.Handing.{FirstOf, HandsElement}
use Rattle.index.specs.Entries.{entries_bytes}
use Rattle.index.specs.Puts.{Put}
use Rattle.index.proofs.Sizing.{length_few}
use Rattle.index.proofs.Areas.{put_then, put_same}

-- where one is handed out, it is the next of those that are left
pub record Next (was : Elements) (e : Element) (is : Elements) (rest : List Tree) : Type 0 where
  pub first : Tree
  pub others : List Tree
  pub split : rest ≡ first ∷ others
  pub handed : FirstOf was first others e is

pub next_of : (was : Elements) (e : Element) (is : Elements) (rest : List Tree) → Stand was rest → HandsElement was (Some e) is → Next was e is rest
next_of was e is [] s h = absurd (omega (arith, h.counted, s.count))
next_of was e is (t ∷ ts) s h = record { first = t; others = ts; split = refl; handed = h.first t ts s }

-- where none is, none is left
pub ended : (was is : Elements) (rest : List Tree) → Stand was rest → HandsElement was None is → rest ≡ []
ended was is [] s h = refl
ended was is (t ∷ ts) s h = absurd (h.first t ts s)

-- some of the elements are read, of which P holds, and the others are left
pub record Halfway (P : List Tree → Type 0) (elements : Elements) (ts : List Tree) : Type 0 where
  pub done : List Tree
  pub rest : List Tree
  pub split : ts ≡ done ++ rest
  pub left : Stand elements rest
  pub held : P done

pub none_done : (P : List Tree → Type 0) (elements : Elements) (ts : List Tree) → Stand elements ts → P [] → Halfway P elements ts
none_done P elements ts s p = record { done = []; rest = ts; split = refl; left = s; held = p }

-- all are read
pub all_done : (P : List Tree → Type 0) (elements is : Elements) (ts : List Tree) → Halfway P elements ts → HandsElement elements None is → P ts
all_done P elements is ts h e =
    subst P (sym (h.split ∙ ap (λ (x : List Tree). h.done ++ x) (ended elements is h.rest h.left e) ∙ append-nil h.done)) h.held

-- one more is read
pub next_done : (P Q : List Tree → Type 0) (was : Elements) (e : Element) (is : Elements) (ts : List Tree) (h : Halfway P was ts) (n : Next was e is h.rest) →
    Q (h.done ++ (n.first ∷ [])) → Halfway Q is ts
next_done P Q was e is ts h n q = record {
  done = h.done ++ (n.first ∷ []);
  rest = n.others;
  split = h.split ∙ ap (λ (x : List Tree). h.done ++ x) n.split ∙ sym (append_assoc h.done (n.first ∷ []) n.others);
  left = n.handed.others;
  held = q;
}

-- what is left of the elements is so that Q holds of it
pub record Remaining (Q : List Tree → Type 0) (elements : Elements) : Type 0 where
  pub rest : List Tree
  pub left : Stand elements rest
  pub held : Q rest

pub none_remains : (Q : List Tree → Type 0) (elements is : Elements) → Remaining Q elements → HandsElement elements None is → Q []
none_remains Q elements is r e = subst Q (ended elements is r.rest r.left e) r.held

-- an element is far below what a digest takes
pub few_bytes : (t : Tree) (levels : ℕ) → Valid t levels → length (encode t) ≤ most
few_bytes t levels v = omega (arith, length_few (length (body_of t)), length_encode t, (sound_of t levels v).short)

-- room for one entry more
pub more_room : (k n size : ℕ) → k < n → k * size + size ≤ n * size
more_room k n size l =
    let m : (k + 1) * size ≤ n * size = mul-le-mul_right size (omega arith) in
    omega (arith, add-mul k 1 size)

entries_append : (D : List ℕ → List ℕ) (xs ys : List Tree) → entries_bytes D (xs ++ ys) ≡ entries_bytes D xs ++ entries_bytes D ys
entries_append D [] ys = refl
entries_append D (x ∷ xs) ys =
    ap (λ (z : List ℕ). encode (entry_tree (D (encode x))) ++ z) (entries_append D xs ys)
    ∙ sym (append_assoc (encode (entry_tree (D (encode x)))) (entries_bytes D xs) (entries_bytes D ys))

-- the entries of some elements are put
abbrev pub Entered : (List ℕ → List ℕ) → List ℕ → List ℕ → ℕ → ℕ → List Tree → Type 0
Entered D was is at end ts = Put was is at (entries_bytes D ts) end

-- one more entry
pub entered_more : (D : List ℕ → List ℕ) (was mid is : List ℕ) (at middle end : ℕ) (done : List Tree) (t : Tree) →
    Entered D was mid at middle done → Put mid is middle (encode (entry_tree (D (encode t)))) end → Entered D was is at end (done ++ (t ∷ []))
entered_more D was mid is at middle end done t p q =
    put_same was is _ _ at end (ap (λ (x : List ℕ). entries_bytes D done ++ x) (sym (append-nil _)) ∙ sym (entries_append D done (t ∷ []))) (put_then was mid is _ _ at middle end p q)
