-- Signers that stand in a file.
use Rattle.std.specs.Prelude.{◌≡◌, ℕ, zero, suc, ◌≤◌, List, [], ◌∷◌, length, Some, None, Option}
use Rattle.std.specs.List.{AllByRecursion}
use Rattle.der.specs.Spans.{part}
use Rattle.der.specs.Trees.{Valids, encodes}
use Rattle.fields.specs.declared.located.Entries.{Entries}
use Rattle.cms.specs.declared.located.Signer.{Signer as Located}
use Rattle.cms.specs.Places.{signer_at}
use Rattle.model.specs.Parts.{Attribute, signed_tree, unsigned_tree, Signer, signer_tree, row_of}
use Rattle.model.specs.Shapes.{SignerShape}
use Rattle.rules.specs.Offsets.{behind, inside, signed_at, unsigned_at}
use Rattle.rules.specs.Standing.{Row}

-- attributes lie in a field at `p`, if it is there
abbrev pub FieldThere : ℕ → List ℕ → ℕ → (List Attribute → ℕ) → Option Entries → Option (List Attribute) → Type 0
FieldThere levels file p at None None = Unit {0}
FieldThere levels file p at None (Some ms) = ⊥
FieldThere levels file p at (Some e) None = ⊥
FieldThere levels file p at (Some e) (Some ms) = (e.field.body ≡ at ms) × Row levels file e.field.body e.field.end ms

-- a signer lies where the record says, and begins at `p`
pub record SignerThere (levels : ℕ) (file : List ℕ) (x : Located) (p : ℕ) (s : Signer) : Type 0 where
  pub start : x.whole.start ≡ p
  pub from : x.signed.field.body ≡ inside (signed_at p s) (signed_tree s.signed)
  pub signed : Row levels file x.signed.field.body x.signed.field.end s.signed
  pub unsigned : FieldThere levels file p (λ ms. inside (unsigned_at p s) (unsigned_tree ms)) x.unsigned s.unsigned

-- these signers stand from `at` to `end`
pub record Signers (levels : ℕ) (file : List ℕ) (at end : ℕ) (ss : List Signer) : Type 0 where
  pub valid : Valids (row_of signer_tree ss) levels
  pub shape : AllByRecursion SignerShape ss
  pub bytes : part file at end ≡ encodes (row_of signer_tree ss)
  pub order : at ≤ end
  pub inside : end ≤ length file

-- where signer n lies, of signers from `p` on
abbrev pub signer_number : ℕ → ℕ → List Signer → Option Located
signer_number n p [] = None
signer_number zero p (s ∷ ss) = Some (signer_at (record { at = p; tree = signer_tree s }))
signer_number (suc n) p (s ∷ ss) = signer_number n (behind p (signer_tree s)) ss
