-- A tree is found again from its bytes, and bytes have a tree or one first fault, and not both.
use Rattle.std.proofs.Common.{◌≡◌, ℕ, suc, ◌+◌, ◌-◌, ◌*◌, ◌/◌, ◌%◌, ◌<◌, ◌≤◌, ltb, leb, List, [], ◌∷◌, ◌++◌, length, take, drop, Ok, Err, Result, sym, refl, ap, ◌∙◌, subst, arith}
use lib.Bits.{bit_and}
use Rattle.std.proofs.lemmas.Bool.Decides.{nat_tests}
use Rattle.std.proofs.lemmas.List.{take_at, drop_at, length-append, append_assoc, append_cancel_left, take-append-drop, length-drop}
use Rattle.std.proofs.lemmas.Bool.{cond_both, cond-true, le-leb}
use Rattle.der.specs.declared.header.Header.{Header}
use Rattle.der.specs.declared.fault.Fault.{Fault}
use Rattle.der.specs.declared.cause.Cause.{Cause}
use Rattle.der.specs.Head.{header_of, fits}
use Rattle.der.specs.Trees.{Tree, leaf, node, Forest, none, more, Sound, Constructed, Starts, Forms, Valid, Valids, framed, encode, encodes, length_bytes}
use Rattle.der.specs.Faults.{contents, InElement, InForest, deep, head, inside, first, later}

abbrev pub headed : ℕ → List ℕ → ℕ → Result Header Cause
headed tag lb n = Ok (record { tag = tag; head = suc (length lb); size = n })

pub of_head : (tag n : ℕ) (rest : List ℕ) → (bit_and tag 31 ≡ 31 → ⊥) → n ≤ 65535 → n ≤ length rest →
    header_of (tag ∷ (length_bytes n ++ rest)) ≡ headed tag (length_bytes n) n
of_head tag n rest low s l =
    cond_both (ltb n 128) _ _ (λ lb. header_of (tag ∷ (lb ++ rest)) ≡ headed tag lb n)
    (λ e. grind (arith, nat_tests))
    (λ e. cond_both (ltb n 256) _ _ (λ lb. header_of (tag ∷ (lb ++ rest)) ≡ headed tag lb n)
    (λ d. grind (arith, nat_tests))
    (λ d. let q : 256 * (n / 256) + n % 256 ≡ n = omega arith in
    let g : header_of (tag ∷ 130 ∷ n / 256 ∷ n % 256 ∷ rest) ≡ fits tag 4 (256 * (n / 256) + n % 256) rest = grind (arith, nat_tests) in
    g ∙ ap (λ (m : ℕ). fits tag 4 m rest) q ∙ cond-true (leb n (length rest)) _ _ (le-leb n (length rest) l)))

pub of_frame : (tag : ℕ) (body rest : List ℕ) → Sound tag body →
    header_of (framed tag body ++ rest) ≡ headed tag (length_bytes (length body)) (length body)
of_frame tag body rest s =
    ap (λ (b : List ℕ). header_of (tag ∷ b)) (append_assoc (length_bytes (length body)) body rest)
    ∙ of_head tag (length body) (body ++ rest) s.low s.short (simp length-append (omega arith))

same_head : (tag tag' n n' : ℕ) (lb lb' : List ℕ) → headed tag lb n ≡ headed tag' lb' n' → (tag ≡ tag') × (n ≡ n')
same_head tag tag' n n' lb lb' e =
    (ap (λ (r : Result Header Cause). elim r [ Ok h ↦ h.tag | Err c ↦ 0 ]) e, ap (λ (r : Result Header Cause). elim r [ Ok h ↦ h.size | Err c ↦ 0 ]) e)

abbrev pub Same : ℕ → List ℕ → List ℕ → ℕ → List ℕ → List ℕ → Type 0
Same tag body rest tag' body' rest' = (tag ≡ tag') × (body ≡ body') × (rest ≡ rest')

pub same_frame : (tag : ℕ) (body rest : List ℕ) (tag' : ℕ) (body' rest' : List ℕ) → Sound tag body → Sound tag' body' →
    framed tag body ++ rest ≡ framed tag' body' ++ rest' → Same tag body rest tag' body' rest'
same_frame tag body rest tag' body' rest' s s' e =
    let hs : headed tag (length_bytes (length body)) (length body) ≡ headed tag' (length_bytes (length body')) (length body') =
    sym (of_frame tag body rest s) ∙ ap header_of e ∙ of_frame tag' body' rest' s' in
    let p = same_head tag tag' (length body) (length body') _ _ hs in
    let pre : List ℕ = tag ∷ length_bytes (length body) in
    let pre_is : pre ≡ tag' ∷ length_bytes (length body') = cc (p.0, p.1) in
    let a : pre ++ (body ++ rest) ≡ pre ++ (body' ++ rest') =
    ap {B = List ℕ} (λ b. tag ∷ b) (sym (append_assoc (length_bytes (length body)) body rest)) ∙ e
    ∙ ap {B = List ℕ} (λ b. tag' ∷ b) (append_assoc (length_bytes (length body')) body' rest')
    ∙ ap (λ (x : List ℕ). x ++ (body' ++ rest')) (sym pre_is) in
    let b : body ++ rest ≡ body' ++ rest' = append_cancel_left pre (body ++ rest) (body' ++ rest') a in (
      p.0,
      sym (take_at body rest (length body) refl) ∙ ap (take (length body)) b ∙ take_at body' rest' (length body) (sym p.1),
      sym (drop_at body rest (length body) refl) ∙ ap (drop (length body)) b ∙ drop_at body' rest' (length body) (sym p.1),
    )

-- a tree has bytes
pub no_bytes : (t : Tree) (rest : List ℕ) → encode t ++ rest ≡ [] → ⊥
no_bytes (leaf tag body) rest e = omega (arith, ap length e)
no_bytes (node tag parts) rest e = omega (arith, ap length e)

mutual
  pub same_tree : (t t' : Tree) (levels : ℕ) (rest rest' : List ℕ) → Valid t levels → Valid t' levels → encode t ++ rest ≡ encode t' ++ rest' →
      (t ≡ t') × (rest ≡ rest')
  same_tree (leaf tag body) (leaf tag' body') levels rest rest' v v' e =
      let p = same_frame tag body rest tag' body' rest' v.1 v'.1 e in
      (cc (p.0, p.1), p.2)
  same_tree (leaf tag body) (node tag' parts) levels rest rest' v v' e =
      let p = same_frame tag body rest tag' (encodes parts) rest' v.1 v'.1 e in
      absurd (v'.2 (ap (λ (x : ℕ). bit_and x 32) (sym p.0) ∙ v.2))
  same_tree (node tag parts) (leaf tag' body) levels rest rest' v v' e =
      let p = same_frame tag (encodes parts) rest tag' body rest' v.1 v'.1 e in
      absurd (v.2 (ap (λ (x : ℕ). bit_and x 32) p.0 ∙ v'.2))
  same_tree (node tag parts) (node tag' parts') levels rest rest' v v' e =
      let p = same_frame tag (encodes parts) rest tag' (encodes parts') rest' v.1 v'.1 e in
      let q = same_forest parts parts' (levels - 1) v.3 v'.3 p.1 in
      (cc (p.0, q), p.2)

  pub same_forest : (ts ts' : Forest) (levels : ℕ) → Valids ts levels → Valids ts' levels → encodes ts ≡ encodes ts' → ts ≡ ts'
  same_forest none none levels v v' e = refl
  same_forest none (more t' ts') levels v v' e = absurd (no_bytes t' (encodes ts') (sym e))
  same_forest (more t ts) none levels v v' e = absurd (no_bytes t (encodes ts) e)
  same_forest (more t ts) (more t' ts') levels v v' e =
      let p = same_tree t t' levels (encodes ts) (encodes ts') v.0 v'.0 e in
      let q = same_forest ts ts' levels v.1 v'.1 p.1 in
      cc (p.0, q)

by_forest : (levels : ℕ) (bs : List ℕ) → 0 < length bs → ((t : Tree) (rest : List ℕ) → Valid t levels → bs ≡ encode t ++ rest → ⊥) →
    (ts : Forest) → Valids ts levels → encodes ts ≡ bs → ⊥
by_forest levels bs l k none v e = omega (arith, ap length e)
by_forest levels bs l k (more t ts) v e = k t (encodes ts) v.0 (sym e)

-- what a header says of the tree that the bytes begin with
pub leaf_head : (tag : ℕ) (body rest bs : List ℕ) → Sound tag body → bs ≡ framed tag body ++ rest → header_of bs ≡ headed tag (length_bytes (length body)) (length body)
leaf_head tag body rest bs s e = ap header_of e ∙ of_frame tag body rest s

pub contents_of : (tag : ℕ) (body rest bs : List ℕ) (h : Header) → Sound tag body → bs ≡ framed tag body ++ rest → header_of bs ≡ Ok h →
    (h.tag ≡ tag) × (contents h bs ≡ body)
contents_of tag body rest bs h s e q =
    let n : ℕ = length body in
    let pre : List ℕ = tag ∷ length_bytes n in
    let r : headed tag (length_bytes n) n ≡ Ok h = sym (leaf_head tag body rest bs s e) ∙ q in
    let ht : h.tag ≡ tag = ap (λ (r : Result Header Cause). elim r [ Ok h ↦ h.tag | Err c ↦ 0 ]) (sym r) in
    let hh : h.head ≡ length pre = ap (λ (r : Result Header Cause). elim r [ Ok h ↦ h.head | Err c ↦ 0 ]) (sym r) in
    let hs : h.size ≡ n = ap (λ (r : Result Header Cause). elim r [ Ok h ↦ h.size | Err c ↦ 0 ]) (sym r) in
    let b : bs ≡ pre ++ (body ++ rest) = e ∙ ap {B = List ℕ} (λ b. tag ∷ b) (append_assoc (length_bytes n) body rest) in (
      ht,
      ap (λ (m : ℕ). take m (drop h.head bs)) hs ∙ ap (λ (m : ℕ). take n (drop m bs)) hh ∙ ap (λ (x : List ℕ). take n (drop (length pre) x)) b
          ∙ ap (take n) (drop_at pre (body ++ rest) (length pre) refl) ∙ take_at body rest n refl,
    )

pub ok_not_err : (r : Result Header Cause) (h : Header) (c : Cause) → r ≡ Ok h → r ≡ Err c → ⊥
ok_not_err r h c p q = let z : ◌≡◌ {A = ℕ} 0 1 = cc in omega arith

pub same_ok : (r : Result Header Cause) (h h' : Header) → r ≡ Ok h → r ≡ Ok h' → h ≡ h'
same_ok r h h' p q = cc

pub same_err : (r : Result Header Cause) (c c' : Cause) → r ≡ Err c → r ≡ Err c' → c ≡ c'
same_err r c c' p q = cc

valid_up : (t : Tree) (levels : ℕ) → Valid t levels → 0 < levels
valid_up (leaf tag body) levels v = v.0
valid_up (node tag parts) levels v = v.0

pub valid_head : (t : Tree) (levels : ℕ) (rest bs : List ℕ) → Valid t levels → bs ≡ encode t ++ rest → (h : Header) × (header_of bs ≡ Ok h)
valid_head (leaf tag body) levels rest bs v e = (_, leaf_head tag body rest bs v.1 e)
valid_head (node tag parts) levels rest bs v e = (_, leaf_head tag (encodes parts) rest bs v.1 e)

-- what a constructed element holds
valid_parts : (t : Tree) (levels : ℕ) (rest bs : List ℕ) (h : Header) → Valid t levels → bs ≡ encode t ++ rest → header_of bs ≡ Ok h → Constructed h.tag →
    Forms (levels - 1) (contents h bs)
valid_parts (leaf tag body) levels rest bs h v e q k =
    absurd (k (ap (λ (x : ℕ). bit_and x 32) (contents_of tag body rest bs h v.1 e q).0 ∙ v.2))
valid_parts (node tag parts) levels rest bs h v e q k = (parts, v.3, sym (contents_of tag (encodes parts) rest bs h v.1 e q).1)

starts_split : (levels n : ℕ) (bs : List ℕ) (s : Starts levels bs n) → bs ≡ encode s.0 ++ drop n bs
starts_split levels n bs s = sym (ap (λ (x : List ℕ). x ++ drop n bs) s.2 ∙ take-append-drop n bs)

-- bytes that are a forest and begin with a tree go on as a forest
forms_rest : (levels n : ℕ) (bs : List ℕ) → Starts levels bs n → Forms levels bs → Forms levels (drop n bs)
forms_rest levels n bs s f = go f.0 f.1 f.2
  where
    go : (ts : Forest) → Valids ts levels → encodes ts ≡ bs → Forms levels (drop n bs)
    go none v e = absurd (no_bytes s.0 (drop n bs) (sym (starts_split levels n bs s) ∙ sym e))
    go (more t ts) v e =
        (ts, v.1, sym (same_tree s.0 t levels (drop n bs) (encodes ts) s.1 v.0 (sym (starts_split levels n bs s) ∙ sym e)).1)

-- two trees at one place take up the same bytes
pub same_rest : (levels n m : ℕ) (bs : List ℕ) → Starts levels bs n → Starts levels bs m → n ≡ m
same_rest levels n m bs s u =
    let p = same_tree s.0 u.0 levels (drop n bs) (drop m bs) s.1 u.1 (sym (starts_split levels n bs s) ∙ starts_split levels m bs u) in
    omega (arith, s.3, u.3, simp length-drop at (ap length p.1))

mutual
  no_element_fault : {levels : ℕ} {bs : List ℕ} {place : ℕ} {f : Fault} → InElement levels bs place f → (t : Tree) (rest : List ℕ) → Valid t levels → bs ≡ encode t ++ rest → ⊥
  no_element_fault (deep z e) t rest v b = omega (arith, valid_up t _ v)
  no_element_fault (head c l e g) t rest v b = let p = valid_head t _ rest _ v b in ok_not_err _ p.0 c p.1 e
  no_element_fault (inside h l e k i) t rest v b = no_forest_fault i (valid_parts t _ rest _ h v b e k)

  no_forest_fault : {levels : ℕ} {bs : List ℕ} {place : ℕ} {f : Fault} → InForest levels bs place f → Forms levels bs → ⊥
  no_forest_fault (first {levels = levels} {bs = bs} l i) f = by_forest levels bs l (no_element_fault i) f.0 f.1 f.2
  no_forest_fault (later {levels = levels} {bs = bs} n s i) f = no_forest_fault i (forms_rest levels n bs s f)

mutual
  same_element_fault : {levels : ℕ} {bs : List ℕ} {place : ℕ} {f g : Fault} → InElement levels bs place f → InElement levels bs place g → f ≡ g
  same_element_fault (deep z e) (deep z' e') = e ∙ sym e'
  same_element_fault (deep z e) (head c l q e') = absurd (omega arith)
  same_element_fault (deep z e) (inside h l q k i) = absurd (omega arith)
  same_element_fault (head c l q e) (deep z e') = absurd (omega arith)
  same_element_fault (head c l q e) (head c' l' q' e') = let p = same_err _ c c' q q' in cc
  same_element_fault (head c l q e) (inside h l' q' k i) = absurd (ok_not_err _ h c q' q)
  same_element_fault (inside h l q k i) (deep z e) = absurd (omega arith)
  same_element_fault (inside h l q k i) (head c l' q' e) = absurd (ok_not_err _ h c q q')
  same_element_fault (inside {levels = levels} {bs = bs} {place = place} h l q k i) (inside {f = g} h' l' q' k' i') =
      same_forest_fault i (subst (λ (x : Header). InForest (levels - 1) (contents x bs) (place + x.head) g) (same_ok (header_of bs) h' h q' q) i')

  same_forest_fault : {levels : ℕ} {bs : List ℕ} {place : ℕ} {f g : Fault} → InForest levels bs place f → InForest levels bs place g → f ≡ g
  same_forest_fault (first l i) (first l' i') = same_element_fault i i'
  same_forest_fault (first {levels = levels} {bs = bs} l i) (later n s i') =
      absurd (no_element_fault i s.0 (drop n bs) s.1 (starts_split levels n bs s))
  same_forest_fault (later {levels = levels} {bs = bs} n s i) (first l i') =
      absurd (no_element_fault i' s.0 (drop n bs) s.1 (starts_split levels n bs s))
  same_forest_fault (later {levels = levels} {bs = bs} {place = place} n s i) (later {f = g} m u i') =
      same_forest_fault i (subst (λ (x : ℕ). InForest levels (drop x bs) (place + x) g) (same_rest levels m n bs u s) i')

pub no_fault : (levels : ℕ) (bs : List ℕ) (place : ℕ) (f : Fault) → InForest levels bs place f → Forms levels bs → ⊥
no_fault levels bs place f i w = no_forest_fault i w

pub one_fault : (levels : ℕ) (bs : List ℕ) (place : ℕ) (f g : Fault) → InForest levels bs place f → InForest levels bs place g → f ≡ g
one_fault levels bs place f g i j = same_forest_fault i j

-- the same of the element that the bytes begin with
pub no_fault_at : (levels : ℕ) (bs : List ℕ) (place n : ℕ) (f : Fault) → InElement levels bs place f → Starts levels bs n → ⊥
no_fault_at levels bs place n f i s = no_element_fault i s.0 (drop n bs) s.1 (starts_split levels n bs s)

pub one_fault_at : (levels : ℕ) (bs : List ℕ) (place : ℕ) (f g : Fault) → InElement levels bs place f → InElement levels bs place g → f ≡ g
one_fault_at levels bs place f g i j = same_element_fault i j
