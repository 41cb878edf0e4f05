-- The first element too many among signers that are read is that among the signers of a file.
use Rattle.std.proofs.Common.{◌≡◌, ℕ, zero, suc, ◌+◌, ◌-◌, List, [], ◌∷◌, Some, None, Ok, Err, Option, Result, refl, ap, ◌∙◌, arith}
use Rattle.std.specs.List.{AllByRecursion}
use Rattle.der.specs.declared.span.Span.{Span}
use Rattle.der.specs.Trees.{Tree, Forest, none, more, Constructed, tag_of}
use Rattle.fields.specs.Placed.{placed_from, if_first, mapped, entries_for}
use Rattle.cms.specs.Places.{signer_at}
use Rattle.fields.specs.Reads.{◌>>=◌, is, tagged, broke}
use Rattle.cms.specs.Records.{signer_in, signer_of, signer_stop}
use Rattle.fields.specs.Rules.{parts_of, head_size, body_size, or_else}
use Rattle.fields.proofs.Steps.{Gives}
use Rattle.fields.proofs.Standing.{At, none_read, rest_at, parts_at}
use Rattle.cms.proofs.SignerLinks.{link_signer_of}
use Rattle.cms.proofs.RecordPlaces.{signer_of_lies}
use Rattle.fields.proofs.Tags.{seq, field_zero, field_one}
use Rattle.model.specs.Parts.{row_of, maybe, Attribute, attribute_tree, Signer, unsigned_tree, signer_tree}
use Rattle.model.specs.Shapes.{SignerShape}
use Rattle.model.proofs.Keeping.{signer_kept}
use Rattle.rules.specs.Limits.{too_many_of, most_entries, too_many_in, too_many_attributes, too_many_signers}
use Rattle.limits.specs.Past.{if_read, entries_past, attributes_past, signers_past}
use Rattle.limits.proofs.Behind.{none_leaves, more_leaves, past_is}

module _ {levels : ℕ} {file : List ℕ} {at end : ℕ} {t : Tree} {ts : Forest} where
  -- what stands behind the first tree, and inside it
  pub behind_at : At levels file at end (more t ts) → At levels file (at + head_size t + body_size t) end ts
  behind_at a = rest_at levels file at end t ts a

  pub within_at : At levels file at end (more t ts) → Constructed (tag_of t) → At (levels - 1) file (at + head_size t) (at + head_size t + body_size t) (parts_of t)
  within_at a k = parts_at levels file at end t ts a k

  -- in the list of a field that is there
  pub list_past : At levels file at end (more t ts) → Constructed (tag_of t) →
      entries_past file (Some (entries_for (record { at = at; tree = t }))) ≡ too_many_of most_entries (at + head_size t) (parts_of t)
  list_past a k = past_is (levels - 1) file _ most_entries _ (parts_of t) (within_at a k)

unsigned_past : (levels : ℕ) (file : List ℕ) (at end : ℕ) (u : Option (List Attribute)) → At levels file at end (maybe unsigned_tree u none) →
    entries_past file (mapped entries_for (if_first 0xa1 (placed_from at (maybe unsigned_tree u none)))) ≡ too_many_in attribute_tree unsigned_tree at u
unsigned_past levels file at end None a = refl
unsigned_past levels file at end (Some ms) a = list_past a field_one

pub both : (a b c d : Option ℕ) → a ≡ c → b ≡ d → or_else a b ≡ or_else c d
both a b c d p q = ap (λ (x : Option ℕ). or_else x b) p ∙ ap (or_else c) q

-- the attributes of the signer that stands first
attributes_past_lem : (levels : ℕ) (file : List ℕ) (at end : ℕ) (s : Signer) (ts : Forest) → At levels file at end (more (signer_tree s) ts) →
    attributes_past file (signer_at (record { at = at; tree = signer_tree s })) ≡ too_many_attributes at s
attributes_past_lem levels file at end s ts a =
    let signed = behind_at (behind_at (behind_at (within_at a seq))) in
    both _ _ _ _ (list_past signed field_zero) (unsigned_past (levels - 1) file _ _ s.unsigned (behind_at (behind_at (behind_at signed))))

unbroken : {X : Type 0} (r : Result X ℕ) (y : X) → broke r ≡ None → Gives (λ x. x ≡ y) r → r ≡ Ok y
unbroken (Ok x) y e g = ap {B = Result _ ℕ} Ok (g.holds x refl)
unbroken (Err p) y e g = absurd (let z : ◌≡◌ {A = ℕ} 0 1 = cc in omega arith)

-- it is read
signer_there : (levels : ℕ) (file : List ℕ) (at end : ℕ) (s : Signer) (ts : Forest) → At levels file at end (more (signer_tree s) ts) → SignerShape s →
    signer_of file at end ≡ Ok (signer_at (record { at = at; tree = signer_tree s }))
signer_there levels file at end s ts a k =
    unbroken (signer_of file at end) _ (link_signer_of levels file at end _ a ∙ ap (λ (o : Option ℕ). or_else o None) (signer_kept _ s k)) (signer_of_lies levels file at end _ a)

pub signers_past_lem : (levels : ℕ) (file : List ℕ) (end n at : ℕ) (ss : List Signer) → At levels file at end (row_of signer_tree ss) → AllByRecursion SignerShape ss →
    signers_past n file at end ≡ too_many_signers n at ss
signers_past_lem levels file end zero at [] a k = none_leaves levels file at end a
signers_past_lem levels file end zero at (s ∷ ss) a k = more_leaves levels file at end _ _ a
signers_past_lem levels file end (suc n) at [] a k =
    ap (λ (r : Result Span ℕ). if_read ((r >>= tagged at (is 0x30)) >>= signer_in file) (λ x. or_else (attributes_past file x) (signers_past n file (signer_stop x) end))) (none_read levels file at end a)
signers_past_lem levels file end (suc n) at (s ∷ ss) a (k, ks) =
    ap (λ r. if_read r (λ x. or_else (attributes_past file x) (signers_past n file (signer_stop x) end))) (signer_there levels file at end s _ a k)
    ∙ both _ _ _ _ (attributes_past_lem levels file at end s _ a) (signers_past_lem levels file end n _ ss (behind_at a) ks)
