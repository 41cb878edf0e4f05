-- A file has one outline: what is told of it is all that can be told.
use Rattle.std.proofs.Common.{◌≡◌, ℕ, ◌+◌, ◌<◌, ◌≤◌, List, [], ◌++◌, length, drop, Ok, Err, Result, sym, refl, ap, ◌∙◌, arith}
use Rattle.std.proofs.lemmas.List.{append-nil, length-drop, take-append-drop}
use Rattle.der.specs.declared.fault.Fault.{Fault}
use Rattle.der.specs.Trees.{Tree, Starts, encode}
use Rattle.der.specs.Faults.{InElement, deep, head, inside, first}
use Rattle.der.proofs.Unique.{same_tree, no_fault, one_fault}
use Rattle.listing.specs.declared.refusal.Refusal.{Refusal}
use Rattle.listing.specs.declared.refusal.Refusal.TheVariants.{Length, Element, Surplus}
use Rattle.listing.specs.declared.outline.Outline.{Outline}
use Rattle.listing.specs.Listed.{lines_of}
use Rattle.listing.specs.Told.{Whole, Refuses, Tells}
use Rattle.listing.specs.Words.{refusal_text}
use Rattle.listing.specs.Pages.{ended, lines_text, told_text, TextOf}
use Rattle.listing.proofs.Headers.{Begins, header_is, parts_of_lem}

-- the bytes begin with the tree
starts_with : (bs : List ℕ) (n : ℕ) (s : Starts 32 bs n) → bs ≡ encode s.0 ++ drop n bs
starts_with bs n s = sym (ap (λ (x : List ℕ). x ++ drop n bs) s.2 ∙ take-append-drop n bs)

-- bytes that begin with a tree have no fault in their first element
no_element_fault : {bs : List ℕ} {f : Fault} (t : Tree) (ys : List ℕ) → Begins 32 bs t ys → InElement 32 bs 0 f → ⊥
no_element_fault t ys b (deep z e) = omega arith
no_element_fault {bs} t ys b (head c l e g) = let p = header_is 32 bs t ys b in let z : ◌≡◌ {A = ℕ} 0 1 = cc in omega arith
no_element_fault {bs} {f} t ys b (inside h l e k i) = no_fault 31 _ (0 + h.head) f i (parts_of_lem 32 bs h t ys e k b)

one_end : (bs : List ℕ) (n m : ℕ) → Starts 32 bs n → (t : Tree) → Begins 32 bs t (drop m bs) → m ≤ length bs → n ≡ m
one_end bs n m s t b l =
    let p = same_tree s.0 t 32 (drop n bs) (drop m bs) s.1 b.0 (sym (starts_with bs n s) ∙ b.1) in
    omega (arith, s.3, simp length-drop at (ap length p.1))

whole_begins : (bs : List ℕ) (t : Tree) → Whole bs t → Begins 32 bs t []
whole_begins bs t w = (w.1, sym (append-nil (encode t) ∙ w.2))

no_surplus : (bs : List ℕ) (n : ℕ) (t : Tree) → Whole bs t → Starts 32 bs n → n < length bs → ⊥
no_surplus bs n t w s l =
    let p = same_tree s.0 t 32 (drop n bs) [] s.1 w.1 (sym (starts_with bs n s) ∙ (whole_begins bs t w).1) in
    omega (arith, simp length-drop at (ap length p.1))

same_refusal : (bs : List ℕ) (r q : Refusal) → Refuses bs r → Refuses bs q → r ≡ q
same_refusal bs Length Length x y = refl
same_refusal bs Length (Element g) x y = absurd (x y.0)
same_refusal bs Length (Surplus m) x y = absurd (x y.0)
same_refusal bs (Element f) Length x y = absurd (y x.0)
same_refusal bs (Element f) (Element g) x y = ap {B = Refusal} Element (one_fault 32 bs 0 f g (first x.0.0 x.1) (first x.0.0 y.1))
same_refusal bs (Element f) (Surplus m) x y = absurd (no_element_fault y.1.0 (drop m bs) (y.1.1, starts_with bs m y.1) x.1)
same_refusal bs (Surplus n) Length x y = absurd (y x.0)
same_refusal bs (Surplus n) (Element g) x y = absurd (no_element_fault x.1.0 (drop n bs) (x.1.1, starts_with bs n x.1) y.1)
same_refusal bs (Surplus n) (Surplus m) x y = ap {B = Refusal} Surplus (one_end bs n m x.1 y.1.0 (y.1.1, starts_with bs m y.1) y.1.3)

not_both : {P : Type 0} (bs : List ℕ) (t : Tree) (r : Refusal) → Whole bs t → Refuses bs r → P
not_both bs t Length w x = absurd (x w.0)
not_both bs t (Element f) w x = absurd (no_element_fault t [] (whole_begins bs t w) x.1)
not_both bs t (Surplus n) w x = absurd (no_surplus bs n t w x.1 x.2)

one_tree : (bs : List ℕ) (t u : Tree) → Whole bs t → Whole bs u → t ≡ u
one_tree bs t u w x = (same_tree t u 32 [] [] w.1 x.1 (sym (whole_begins bs t w).1 ∙ (whole_begins bs u x).1)).0

same_told : (bs : List ℕ) (o p : Result Outline Refusal) → Tells bs o → Tells bs p → told_text o ≡ told_text p
same_told bs (Ok v) (Ok w) x y = ap lines_text (x.2 ∙ ap (lines_of 0 1) (one_tree bs x.0 y.0 x.1 y.1) ∙ sym y.2)
same_told bs (Ok v) (Err r) x y = not_both bs x.0 r x.1 y
same_told bs (Err r) (Ok w) x y = not_both bs y.0 r y.1 x
same_told bs (Err r) (Err q) x y = ap (λ (z : Refusal). ended (refusal_text z)) (same_refusal bs r q x y)

-- a file has one text
pub one_text : (bs text other : List ℕ) → TextOf bs text → TextOf bs other → text ≡ other
one_text bs text other x y = x.2 ∙ same_told bs x.0 y.0 x.1 y.1 ∙ sym y.2
