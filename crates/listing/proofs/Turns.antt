-- What the loop over elements back to back does in one turn.
use Rattle.std.proofs.Common.{◌≡◌, ℕ, ◌+◌, ◌-◌, ◌<◌, ◌≤◌, List, [], ◌∷◌, ◌++◌, length, sym, ap, ◌∙◌, arith}
use lib.Bits.{bit_and}
use Rattle.std.proofs.lemmas.List.{append_assoc, append-nil, length-append}
use Rattle.der.specs.declared.span.Span.{Span}
use Rattle.der.specs.Spans.{part, Handed, FirstTree}
use Rattle.der.specs.Trees.{Tree, leaf, node, Forest, none, more, Constructed, Forms, Valid, Valids, encode, encodes, tag_of, body_of}
use Rattle.der.proofs.Parts.{length_part}
use Rattle.listing.specs.declared.line.Line.{Line}
use Rattle.listing.specs.Listed.{head_of, line_of, lines_of, lines_in}
use Rattle.listing.proofs.Headers.{length_encode}

-- a line, by where its element lies
abbrev pub line_by : Span → ℕ → Line
line_by s level = record { offset = s.start; level = level; tag = s.tag; header = s.body - s.start; contents = s.end - s.body }

-- the elements that are left, of the whole, complete the lines: `lines` so far, `before` where the loop began
abbrev pub Left : ℕ → ℕ → ℕ → ℕ → List ℕ → List ℕ → List Line → List Line → Type 0
Left levels level place at whole rest before lines =
    (ts : Forest) → Valids ts levels → encodes ts ≡ whole →
    (us : Forest) × Valids us levels × (encodes us ≡ rest) × (lines ++ lines_in at level us ≡ before ++ lines_in place level ts)

valid_up : (t : Tree) (levels : ℕ) → Valid t levels → 0 < levels
valid_up (leaf tag body) levels v = v.0
valid_up (node tag parts) levels v = v.0

pub deeper : (level : ℕ) → 33 - level - 1 ≡ 33 - (level + 1)
deeper level = omega arith

-- before the end there is an element
pub first_left : {P : Type 0} (levels at end : ℕ) (bs : List ℕ) → at < end → end ≤ length bs → (us : Forest) → Valids us levels → encodes us ≡ part bs at end →
    ((t : Tree) (rest : Forest) → Valids (more t rest) levels → part bs at end ≡ encodes (more t rest) → P) → P
first_left levels at end bs order room none v e k = absurd (omega (arith, ap length e, length_part bs at end))
first_left levels at end bs order room (more t rest) v e k = k t rest v (sym e)

-- an element that is handed out
module _ (levels level at end after : ℕ) (bs : List ℕ) (s : Span) (h : Handed bs at end s after) (order : at < end) (room : end ≤ length bs) where
  module _ (t : Tree) (rest : Forest) (f : FirstTree bs end t rest s after) where
    body_size_is : s.end - s.body ≡ length (body_of t)
    body_size_is = omega (arith, h.start, h.body, h.ends, h.within, length_part bs s.body s.end, ap length f.inside)

    whole_size_is : s.end - s.start ≡ length (encode t)
    whole_size_is = omega (arith, h.start, h.body, h.ends, h.within, length_part bs s.start s.end, ap length f.whole)

    head_size_is : s.body - s.start ≡ length (head_of (tag_of t) (body_of t))
    head_size_is = omega (arith, h.start, h.body, h.ends, body_size_is, whole_size_is, length_encode t)

    line_is : line_by s level ≡ line_of at level (tag_of t) (body_of t)
    line_is =
        let start = h.start in
        let tag = f.tag in
        let header = head_size_is in
        let contents = body_size_is in
        λ i. record { offset = start i; level = level; tag = tag i; header = header i; contents = contents i }

    place_is : s.body ≡ at + length (head_of (tag_of t) (body_of t))
    place_is = omega (arith, h.start, h.body, head_size_is)

    after_is : after ≡ at + length (encode t)
    after_is = omega (arith, h.start, h.body, h.ends, h.behind, whole_size_is)

    -- where its tag says so, it holds no elements
    pub leaf_listed : bit_and s.tag 32 ≡ 0 → Valid t levels → line_by s level ∷ [] ≡ lines_of at level t
    leaf_listed z v = by t v line_is f.tag
      where
        by : (u : Tree) → Valid u levels → line_by s level ≡ line_of at level (tag_of u) (body_of u) → s.tag ≡ tag_of u → line_by s level ∷ [] ≡ lines_of at level u
        by (leaf tag body) w e q = ap {B = List Line} (λ x. x ∷ []) e
        by (node tag parts) w e q = absurd (w.2 (ap (λ (x : ℕ). bit_and x 32) (sym q) ∙ z))

    -- else it does, on the next level
    node_parts : Constructed s.tag → Valid t levels →
        (parts : Forest) × Valids parts (levels - 1) × (encodes parts ≡ part bs s.body s.end) × (line_by s level ∷ lines_in s.body (level + 1) parts ≡ lines_of at level t)
    node_parts k v = by t v line_is f.tag f.inside place_is
      where
        by : (u : Tree) → Valid u levels → line_by s level ≡ line_of at level (tag_of u) (body_of u) → s.tag ≡ tag_of u → part bs s.body s.end ≡ body_of u → s.body ≡ at + length (head_of (tag_of u) (body_of u)) →
            (parts : Forest) × Valids parts (levels - 1) × (encodes parts ≡ part bs s.body s.end) × (line_by s level ∷ lines_in s.body (level + 1) parts ≡ lines_of at level u)
        by (leaf tag body) w e q i p = absurd (k (ap (λ (x : ℕ). bit_and x 32) q ∙ w.2))
        by (node tag parts) w e q i p = (parts, w.3, sym i, cc)

    pub node_listed : (lines mid after_lines : List Line) (inner : List ℕ) (from : ℕ) → Constructed s.tag → Valid t levels → inner ≡ part bs s.body s.end → from ≡ s.body →
        mid ≡ lines ++ line_by s level ∷ [] → ((ts : Forest) → Valids ts (levels - 1) → encodes ts ≡ inner → after_lines ≡ mid ++ lines_in from (level + 1) ts) → after_lines ≡ lines ++ lines_of at level t
    node_listed lines mid after_lines inner from k v i p a q =
        let w = node_parts k v in
        q w.0 w.1 (w.2 ∙ sym i)
        ∙ ap (λ (x : List Line). x ++ lines_in from (level + 1) w.0) a
        ∙ append_assoc lines (line_by s level ∷ []) (lines_in from (level + 1) w.0)
        ∙ ap (λ (x : ℕ). lines ++ (line_by s level ∷ lines_in x (level + 1) w.0)) p
        ∙ ap (λ (x : List Line). lines ++ x) w.3

  -- what stands in a constructed one
  pub inner_forms : Constructed s.tag → (us : Forest) → Valids us levels → encodes us ≡ part bs at end →
      ((t : Tree) (rest : Forest) → Valids (more t rest) levels → part bs at end ≡ encodes (more t rest) → FirstTree bs end t rest s after) → (0 < levels) × Forms (levels - 1) (part bs s.body s.end)
  inner_forms k us v e first = first_left levels at end bs order room us v e (λ t rest w d. let p = node_parts t rest (first t rest w d) k w.0 in (valid_up t levels w.0, (p.0, p.1, p.2)))

  -- one element on: `after_lines` has its lines too
  pub on : (place : ℕ) (whole : List ℕ) (before lines after_lines : List Line) → Left levels level place at whole (part bs at end) before lines →
      ((t : Tree) (rest : Forest) → Valids (more t rest) levels → part bs at end ≡ encodes (more t rest) → FirstTree bs end t rest s after) →
      ((t : Tree) (rest : Forest) → Valids (more t rest) levels → FirstTree bs end t rest s after → after_lines ≡ lines ++ lines_of at level t) →
      Left levels level place after whole (part bs after end) before after_lines
  on place whole before lines after_lines left first grown ts v e =
      let m = left ts v e in
      go m.0 m.1 m.2 m.3
    where
      go : (us : Forest) → Valids us levels → encodes us ≡ part bs at end → lines ++ lines_in at level us ≡ before ++ lines_in place level ts →
          (us : Forest) × Valids us levels × (encodes us ≡ part bs after end) × (after_lines ++ lines_in after level us ≡ before ++ lines_in place level ts)
      go none w d q = absurd (omega (arith, ap length d, length_part bs at end))
      go (more t rest) w d q =
          let f = first t rest w (sym d) in (
            rest,
            w.1,
            sym f.rest,
            ap (λ (x : List Line). x ++ lines_in after level rest) (grown t rest w f)
                ∙ append_assoc lines (lines_of at level t) (lines_in after level rest)
                ∙ ap (λ (x : ℕ). lines ++ (lines_of at level t ++ lines_in x level rest)) (after_is t rest f) ∙ q,
          )

-- when none is left, the lines are complete
pub all_listed : (levels level place at end : ℕ) (whole bs : List ℕ) (before lines : List Line) → end ≤ at → Left levels level place at whole (part bs at end) before lines →
    (ts : Forest) → Valids ts levels → encodes ts ≡ whole → lines ≡ before ++ lines_in place level ts
all_listed levels level place at end whole bs before lines l left ts v e = let m = left ts v e in go m.0 m.2 m.3
  where
    go : (us : Forest) → encodes us ≡ part bs at end → lines ++ lines_in at level us ≡ before ++ lines_in place level ts → lines ≡ before ++ lines_in place level ts
    go none d q = sym (append-nil lines) ∙ q
    go (more t rest) d q = absurd (omega (arith, ap length d, length_part bs at end, length-append (encode t) (encodes rest), length_encode t))
