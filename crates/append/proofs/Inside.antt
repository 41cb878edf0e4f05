-- Elements inside a file, found step by step: those behind an element, and those inside it.
use Rattle.std.proofs.Common.{◌≡◌, ℕ, ◌+◌, List, [], ◌∷◌, ◌++◌, length, Some, None, Option, sym, refl, ap, ◌∙◌, subst, arith}
use Rattle.std.proofs.lemmas.List.{append_assoc, append-nil, length-append}
use Rattle.der.specs.Trees.{Tree, leaf, node, Forest, more, OneByteTag, framed, header_bytes, encode, encodes}
use Rattle.der.specs.Headers.{header_size_of}
use Rattle.fields.specs.Rules.{head_size, body_size}
use Rattle.model.specs.Parts.{maybe}
use Rattle.rules.specs.Offsets.{skip_maybe}
use Rattle.grow.specs.Frames.{Frame, plug, around, start, places}
use Rattle.grow.specs.Changes.{Encloses}
use Rattle.grow.proofs.Plugs.{length_wrap}
use Rattle.append.specs.Listed.{frame}

-- inside the frames stand `before`, the elements `ts` from `at` on, and `after`;
-- with other elements in their place the file would be the tree `whole` makes of those
pub record Inside (file path : List ℕ) (fs : List Frame) (at : ℕ) (before : List ℕ) (ts : Forest) (after : List ℕ) (whole : Forest → Tree) : Type 0 where
  pub encloses : Encloses file path fs (before ++ (encodes ts ++ after))
  pub here : at ≡ start fs (length (before ++ (encodes ts ++ after))) + length before
  pub again : (us : Forest) → plug fs (before ++ (encodes us ++ after)) ≡ encode (whole us)

-- nothing behind contents does not change their header
head_bare : (parts : Forest) → header_size_of (length (encodes parts)) ≡ header_size_of (length (encodes parts ++ []))
head_bare parts = ap (λ (x : List ℕ). header_size_of (length x)) (sym (append-nil (encodes parts)))

-- the elements of the outermost one
pub outermost : {file : List ℕ} (tag : ℕ) (parts : Forest) → file ≡ encode (node tag parts) → OneByteTag tag →
    Inside file (0 ∷ []) (frame [] tag [] ∷ []) (0 + head_size (node tag parts)) [] parts [] (λ us. node tag us)
outermost tag parts e low = record {
  encloses = record {
    whole = e ∙ sym (bare (encodes parts));
    here = refl;
    low = (low, tt);
  };
  here = let k = head_bare parts in omega arith;
  again = λ us. bare (encodes us);
}
  where
    bare : (body : List ℕ) → framed tag (body ++ []) ++ [] ≡ framed tag body
    bare body = append-nil (framed tag (body ++ [])) ∙ ap (framed tag) (append-nil body)

-- what an element takes up
pub length_encode : (t : Tree) → length (encode t) ≡ head_size t + body_size t
length_encode (leaf tag body) = length-append (header_bytes tag (length body)) body
length_encode (node tag parts) = length-append (header_bytes tag (length (encodes parts))) (encodes parts)

module _ {file path : List ℕ} {fs : List Frame} {at : ℕ} {before : List ℕ} {after : List ℕ} {whole : Forest → Tree} where
  -- the elements behind the first
  pub step_behind : {t : Tree} {ts : Forest} → Inside file path fs at before (more t ts) after whole →
      Inside file path fs (at + head_size t + body_size t) (before ++ encode t) ts after (λ us. whole (more t us))
  step_behind {t} {ts} i = record {
    encloses = subst (λ (x : List ℕ). Encloses file path fs x) (moved ts) i.encloses;
    here = omega (arith, i.here, length-append before (encode t), length_encode t, ap (λ (x : List ℕ). start fs (length x)) (moved ts));
    again = λ us. ap (plug fs) (sym (moved us)) ∙ i.again (more t us);
  }
    where
      moved : (us : Forest) → before ++ (encodes (more t us) ++ after) ≡ (before ++ encode t) ++ (encodes us ++ after)
      moved us = ap (λ (x : List ℕ). before ++ x) (append_assoc (encode t) (encodes us) after) ∙ sym (append_assoc before (encode t) (encodes us ++ after))

  -- the elements inside the first
  pub step_within : {tag : ℕ} {parts ts : Forest} → Inside file path fs at before (more (node tag parts) ts) after whole → OneByteTag tag →
      Inside file (at ∷ path) (frame before tag (encodes ts ++ after) ∷ fs) (at + head_size (node tag parts)) [] parts [] (λ us. whole (more (node tag us) ts))
  step_within {tag} {parts} {ts} i low = record {
    encloses = record {
      whole = i.encloses.whole ∙ ap (plug fs) (opened parts);
      here =
          ap (λ (x : ℕ). x ∷ path) (i.here ∙ ap (λ (x : ℕ). start fs x + length before) size)
          ∙ ap (λ (x : List ℕ). (start fs (around (frame before tag (encodes ts ++ after)) (length (encodes parts ++ []))) + length before) ∷ x) (i.encloses.here ∙ ap (places fs) size);
      low = (low, i.encloses.low);
    };
    here = let k = head_bare parts in omega (arith, i.here, ap (start fs) size);
    again = λ us. ap (plug fs) (sym (opened us)) ∙ i.again (more (node tag us) ts);
  }
    where
      opened : (us : Forest) → before ++ (encodes (more (node tag us) ts) ++ after) ≡ before ++ (framed tag (encodes us ++ []) ++ (encodes ts ++ after))
      opened us =
          ap (λ (x : List ℕ). before ++ x) (append_assoc (framed tag (encodes us)) (encodes ts) after)
          ∙ ap (λ (x : List ℕ). before ++ (framed tag x ++ (encodes ts ++ after))) (sym (append-nil (encodes us)))

      size : length (before ++ (encodes (more (node tag parts) ts) ++ after)) ≡ around (frame before tag (encodes ts ++ after)) (length (encodes parts ++ []))
      size = ap length (opened parts) ∙ length_wrap (frame before tag (encodes ts ++ after)) (encodes parts ++ [])

-- what stands before the elements behind a field that may be there
abbrev pub past_maybe : {M : Type 0} → (M → Tree) → List ℕ → Option M → List ℕ
past_maybe tree before None = before
past_maybe tree before (Some m) = before ++ encode (tree m)

-- the elements behind a field that may be there
pub step_maybe : {M : Type 0} (tree : M → Tree) {file path : List ℕ} {fs : List Frame} {at : ℕ} {before : List ℕ} {after : List ℕ} {whole : Forest → Tree} {ts : Forest} (o : Option M) →
    Inside file path fs at before (maybe tree o ts) after whole → Inside file path fs (skip_maybe tree at o) (past_maybe tree before o) ts after (λ us. whole (maybe tree o us))
step_maybe tree None i = i
step_maybe tree (Some m) i = step_behind i
