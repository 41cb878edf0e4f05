-- A list of a file, by its place, and the file with more in that list.
use Rattle.std.proofs.Common.{◌≡◌, ℕ, Bool, true, false, List, [], ◌∷◌, ◌++◌, length, is_some, Some, None, Option, Result, sym, refl, ap, ◌∙◌, subst, arith}
use Rattle.std.proofs.lemmas.List.{append_assoc, append-nil}
use Rattle.der.specs.Trees.{Tree, node, Forest, more, OneByteTag, framed, encode, encodes}
use Rattle.model.specs.Parts.{row_of, maybe}
use Rattle.model.specs.Files.{File, file_tree, file_bytes}
use Rattle.grow.specs.Frames.{Frame, plug}
use Rattle.grow.specs.declared.file.GrowingFile.{GrowingFile}
use Rattle.grow.specs.declared.full.Full.{Full}
use Rattle.grow.specs.Changes.{Encloses, Changed, fitting}
use Rattle.append.specs.Appended.{given}
use Rattle.append.specs.Listed.{frame, ListAt}
use Rattle.append.proofs.Inside.{Inside, step_within}

-- a list lies at `path`, and with `new` behind its elements the file is `changed new`
pub record Held {M : Type 0} (tree : M → Tree) (file path : List ℕ) (there : Bool) (tag : ℕ) (changed : List M → File) : Type 0 where
  pub fs : List Frame
  pub before : List ℕ
  pub after : List ℕ
  pub old : List ℕ
  pub list : ListAt there file path fs before tag after old
  pub again : (new : List M) → plug fs (before ++ (framed tag (old ++ encodes (row_of tree new)) ++ after)) ≡ file_bytes (changed new)

encodes_row : {M : Type 0} (tree : M → Tree) (ms ns : List M) → encodes (row_of tree (ms ++ ns)) ≡ encodes (row_of tree ms) ++ encodes (row_of tree ns)
encodes_row tree [] ns = refl
encodes_row tree (m ∷ ms) ns =
    ap (λ (x : List ℕ). encode (tree m) ++ x) (encodes_row tree ms ns) ∙ sym (append_assoc (encode (tree m)) (encodes (row_of tree ms)) (encodes (row_of tree ns)))

not_both : {b : Bool} → b ≡ true → b ≡ false → ⊥
not_both p q = let z : ◌≡◌ {A = ℕ} 0 1 = cc in omega arith

module _ {M : Type 0} (tree : M → Tree) {file path : List ℕ} {fs : List Frame} {at : ℕ} {before : List ℕ} {after : List ℕ} {whole : Forest → Tree} (tag : ℕ) (ts : Forest)
    (low : OneByteTag tag) (changed : List M → File) where
  pub held : (o : Option (List M)) → Inside file path fs at before (maybe (λ ms. node tag (row_of tree ms)) o ts) after whole →
      ((new : List M) → file_tree (changed new) ≡ whole (more (node tag (row_of tree (given o ++ new))) ts)) → Held tree file (at ∷ path) (is_some o) tag changed
  held None i e = record {
    fs = fs;
    before = before;
    after = encodes ts ++ after;
    old = [];
    list = record { field = λ t. absurd (not_both t refl); place = λ _. record { encloses = i.encloses; cut = i.here }; empty = λ _. refl };
    again = λ new.
        ap (λ (x : List ℕ). plug fs (before ++ x)) (sym (append_assoc (framed tag (encodes (row_of tree new))) (encodes ts) after))
        ∙ i.again (more (node tag (row_of tree new)) ts) ∙ ap encode (sym (e new));
  }
  held (Some ms) i e = record {
    fs = fs;
    before = before;
    after = encodes ts ++ after;
    old = encodes (row_of tree ms);
    list = record {
      field = λ _. subst (λ (x : List ℕ). Encloses file (at ∷ path) (frame before tag (encodes ts ++ after) ∷ fs) x) (append-nil (encodes (row_of tree ms))) (step_within i low).encloses;
      place = λ t. absurd (not_both refl t);
      empty = λ t. absurd (not_both refl t);
    };
    again = λ new.
        ap (λ (x : List ℕ). plug fs (before ++ (framed tag x ++ (encodes ts ++ after)))) (sym (encodes_row tree ms new))
        ∙ ap (λ (x : List ℕ). plug fs (before ++ x)) (sym (append_assoc (framed tag (encodes (row_of tree (ms ++ new)))) (encodes ts) after))
        ∙ i.again (more (node tag (row_of tree (ms ++ new))) ts) ∙ ap encode (sym (e new));
  }

-- the same place and the same answer, told otherwise
pub held_at : {M : Type 0} {tree : M → Tree} {file path path' : List ℕ} {there there' : Bool} {tag : ℕ} {changed : List M → File} → path ≡ path' → there ≡ there' →
    Held tree file path' there' tag changed → Held tree file path there tag changed
held_at {M} {tree} {file} {path} {path'} {there} {there'} {tag} {changed} p t h =
    subst (λ (x : List ℕ). Held tree file x there tag changed) (sym p) (subst (λ (b : Bool). Held tree file path' b tag changed) (sym t) h)

-- what is promised of a list holds of the file, for what is appended to it
pub record HeldFor (file path : List ℕ) (there : Bool) (tag : ℕ) (run grown : List ℕ) : Type 0 where
  pub fs : List Frame
  pub before : List ℕ
  pub after : List ℕ
  pub old : List ℕ
  pub list : ListAt there file path fs before tag after old
  pub again : plug fs (before ++ (framed tag (old ++ run) ++ after)) ≡ grown

pub held_for : {M : Type 0} {tree : M → Tree} {file path : List ℕ} {there : Bool} {tag : ℕ} {changed : List M → File} → Held tree file path there tag changed → (new : List M) →
    HeldFor file path there tag (encodes (row_of tree new)) (file_bytes (changed new))
held_for h new = record { fs = h.fs; before = h.before; after = h.after; old = h.old; list = h.list; again = h.again new }

pub held_tag : {file path : List ℕ} {there : Bool} {tag tag' : ℕ} {run grown : List ℕ} → tag' ≡ tag → HeldFor file path there tag run grown → HeldFor file path there tag' run grown
held_tag {file} {path} {there} {tag} {tag'} {run} {grown} e h = subst (λ (x : ℕ). HeldFor file path there x run grown) (sym e) h

module _ {file path : List ℕ} {there : Bool} {tag : ℕ} {run grown : List ℕ} (h : HeldFor file path there tag run grown) where
  pub held_changed : (was is : GrowingFile) (r : Result ℕ Full) (new : List ℕ) → new ≡ run →
      ((fs : List Frame) (before after old : List ℕ) → ListAt there file path fs before tag after old → Changed was is r (plug fs (before ++ (framed tag (old ++ new) ++ after)))) →
      Changed was is r grown
  held_changed was is r new e c =
      subst (λ (x : List ℕ). Changed was is r x)
      (ap (λ (x : List ℕ). plug h.fs (h.before ++ (framed tag (h.old ++ x) ++ h.after))) e ∙ h.again)
      (c h.fs h.before h.after h.old h.list)

  pub held_fits : (room size : ℕ) (r : Result ℕ Full) → length run ≡ size →
      ((fs : List Frame) (before after old new : List ℕ) → ListAt there file path fs before tag after old → length new ≡ size →
      r ≡ fitting room (length (plug fs (before ++ (framed tag (old ++ new) ++ after))))) →
      r ≡ fitting room (length grown)
  held_fits room size r e c =
      c h.fs h.before h.after h.old run h.list e
      ∙ ap (λ (x : List ℕ). fitting room (length x)) h.again
