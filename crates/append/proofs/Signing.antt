-- A signer of a file, found by its number.
use Rattle.std.proofs.Common.{◌≡◌, ℕ, zero, suc, ◌+◌, List, [], ◌∷◌, is_some, Some, None, Option, refl, arith}
use Rattle.der.specs.Trees.{Tree, Forest, none, more}
use Rattle.cms.specs.declared.located.Signer.{Signer as Located}
use Rattle.fields.specs.Placed.{placed_from, if_first, mapped, entries_for}
use Rattle.cms.specs.Places.{signer_at}
use Rattle.fields.specs.Rules.{head_size, body_size}
use Rattle.model.specs.Parts.{row_of, maybe, Attribute, Signer, signer_tree, unsigned_tree}
use Rattle.rules.specs.Signers.{signer_number}
use Rattle.grow.specs.Frames.{Frame}
use Rattle.append.specs.Appended.{signer_with, signers_with}
use Rattle.append.proofs.Inside.{Inside, step_behind}

-- signer `n` of `ss` is found where the record `x` says, and with more attributes of it the list is the changed one
pub record Found (file path : List ℕ) (fs : List Frame) (after : List ℕ) (whole : Forest → Tree) (n : ℕ) (ss : List Signer) (x : Located) : Type 0 where
  pub signer : Signer
  pub at : ℕ
  pub before : List ℕ
  pub rest : Forest
  pub around : Forest → Tree
  pub inside : Inside file path fs at before (more (signer_tree signer) rest) after around
  pub is : x ≡ signer_at (record { at = at; tree = signer_tree signer })
  pub again : (new : List Attribute) → whole (row_of signer_tree (signers_with n new ss)) ≡ around (more (signer_tree (signer_with new signer)) rest)

none_some : {x : Located} → None ≡ Some x → ⊥
none_some e = let z : ◌≡◌ {A = ℕ} 0 1 = cc in omega arith

same_some : {x y : Located} → Some x ≡ Some y → y ≡ x
same_some e = cc

pub find_signer_lem : {file path : List ℕ} {fs : List Frame} {after : List ℕ} (n p : ℕ) (ss : List Signer) (x : Located) {before : List ℕ} {whole : Forest → Tree} →
    Inside file path fs p before (row_of signer_tree ss) after whole → signer_number n p ss ≡ Some x → Found file path fs after whole n ss x
find_signer_lem n p [] x i e = absurd (none_some e)
find_signer_lem zero p (s ∷ ss) x {before} {whole} i e = record {
  signer = s;
  at = p;
  before = before;
  rest = row_of signer_tree ss;
  around = whole;
  inside = i;
  is = same_some e;
  again = λ new. refl;
}
find_signer_lem (suc n) p (s ∷ ss) x i e =
    let found = find_signer_lem n (p + head_size (signer_tree s) + body_size (signer_tree s)) ss x (step_behind i) e in
    record {
      signer = found.signer;
      at = found.at;
      before = found.before;
      rest = found.rest;
      around = found.around;
      inside = found.inside;
      is = found.is;
      again = found.again;
    }

-- the record says that the field of the unsigned attributes is there where it is
pub unsigned_there : (p : ℕ) (u : Option (List Attribute)) → is_some (mapped entries_for (if_first 0xa1 (placed_from p (maybe unsigned_tree u none)))) ≡ is_some u
unsigned_there p None = refl
unsigned_there p (Some ms) = refl
