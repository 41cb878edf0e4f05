-- Whether a token's signer has unsigned attributes.
use Rattle.std.proofs.Common.{◌≡◌, ℕ, List, Some, None, Option, sym, refl, ap, ◌∙◌, arith}
use Rattle.der.specs.Trees.{none}
use Rattle.fields.specs.declared.located.Entries.{Entries}
use Rattle.fields.specs.Placed.{placed_from, if_first, mapped, entries_for}
use Rattle.cms.specs.declared.located.Signer.{Signer as Located}
use Rattle.model.specs.Parts.{maybe, Attribute, unsigned_tree}
use Rattle.rules.specs.Offsets.{unsigned_at}
use Rattle.token.specs.declared.parts.TokenParts.{TokenParts}
use Rattle.token.specs.Tokens.{TokenAt}
use Rattle.stamp.specs.Stamped.{BareAt, carried_place, Burdened}

-- the field, where the six fields end
abbrev field_at : ℕ → Option (List Attribute) → Option Entries
field_at at u = mapped entries_for (if_first 0xa1 (placed_from at (maybe unsigned_tree u none)))

field_there : (at : ℕ) (u : Option (List Attribute)) (e : Entries) → field_at at u ≡ Some e → (us : List Attribute) × (u ≡ Some us) × (e.field.start ≡ at)
field_there at None e q = absurd (let z : ◌≡◌ {A = ℕ} 0 1 = cc in omega arith)
field_there at (Some us) e q = (us, refl, sym (ap (λ (x : Entries). x.field.start) (some_same q)))
  where
    some_same : {x y : Entries} → Some x ≡ Some y → x ≡ y
    some_same p = cc

field_absent : (at : ℕ) (u : Option (List Attribute)) → field_at at u ≡ None → u ≡ None
field_absent at None q = refl
field_absent at (Some us) q = absurd (let z : ◌≡◌ {A = ℕ} 0 1 = cc in omega arith)

module _ (bytes : List ℕ) (parts : TokenParts) (k : TokenAt 24 bytes parts) where
  unsigned_is : parts.signer.unsigned ≡ field_at (carried_place k.0 k.1) k.1.unsigned
  unsigned_is =
      let w = k.4.signer in
      ap (λ (y : Located). y.unsigned) w.located
      ∙ ap (λ (p : ℕ). field_at (unsigned_at p k.1) k.1.unsigned) (sym (ap (λ (y : Located). y.whole.start) w.located) ∙ k.4.place)

  pub burdened : (e : Entries) → parts.signer.unsigned ≡ Some e → Burdened bytes e.field.start
  burdened e q =
      let u = field_there (carried_place k.0 k.1) k.1.unsigned e (sym unsigned_is ∙ q) in
      record { file = k.0; signer = k.1; info = k.2; token = k.3; attributes = u.0; unsigned = u.1; begins = u.2 }

  pub bare : parts.signer.unsigned ≡ None → BareAt bytes parts
  bare q = (k.0, k.1, k.2, k.3, k.4, field_absent (carried_place k.0 k.1) k.1.unsigned (sym unsigned_is ∙ q))
