-- Nothing is one too many exactly when every list keeps its limit.
use Rattle.std.proofs.Common.{◌≡◌, ℕ, zero, suc, ◌≤◌, List, [], ◌∷◌, length, Some, None, Option, refl, ap, ◌∙◌, arith}
use Rattle.std.specs.List.{AllByRecursion}
use Rattle.der.specs.Trees.{Tree}
use Rattle.fields.specs.Rules.{or_else}
use Rattle.model.specs.Parts.{row_of, attribute_tree, signed_tree, unsigned_tree, Signer, signer_tree}
use Rattle.model.specs.Files.{certificates_tree, revocations_tree, signers_tree}
use Rattle.model.specs.Shapes.{IfThere}
use Rattle.rules.specs.Offsets.{behind, inside, signed_at, unsigned_at, certificates_at, revocations_at, signers_at}
use Rattle.rules.specs.Limits.{too_many_of, most_signers, most_entries, too_many_in, too_many_attributes, too_many_signers, first_too_many_of}
use Rattle.limits.specs.Laws.{Short, SignerKeeps, Keeps, NoneTooMany}

pub none_both : (a b : Option ℕ) → or_else a b ≡ None → (a ≡ None) × (b ≡ None)
none_both None b e = (refl, e)
none_both (Some p) b e = absurd (let z : ◌≡◌ {A = ℕ} 0 1 = cc in omega arith)

pub both_none : (a b : Option ℕ) → a ≡ None → b ≡ None → or_else a b ≡ None
both_none a b p q = ap (λ (x : Option ℕ). or_else x b) p ∙ q

module _ {M : Type 0} (tree : M → Tree) where
  pub row_keeps : (n p : ℕ) (ms : List M) → too_many_of n p (row_of tree ms) ≡ None → length ms ≤ n
  row_keeps n p [] e = omega arith
  row_keeps zero p (m ∷ ms) e = absurd (let z : ◌≡◌ {A = ℕ} 0 1 = cc in omega arith)
  row_keeps (suc n) p (m ∷ ms) e = let l = row_keeps n _ ms e in omega arith

  pub row_none : (n p : ℕ) (ms : List M) → length ms ≤ n → too_many_of n p (row_of tree ms) ≡ None
  row_none n p [] l = refl
  row_none zero p (m ∷ ms) l = absurd (omega arith)
  row_none (suc n) p (m ∷ ms) l = row_none n _ ms (omega arith)

  -- a list whose field may be there
  list_keeps : (field : List M → Tree) (p : ℕ) (o : Option (List M)) → too_many_in tree field p o ≡ None → IfThere Short o
  list_keeps field p None e = tt
  list_keeps field p (Some ms) e = row_keeps most_entries _ ms e

  list_none : (field : List M → Tree) (p : ℕ) (o : Option (List M)) → IfThere Short o → too_many_in tree field p o ≡ None
  list_none field p None k = refl
  list_none field p (Some ms) k = row_none most_entries _ ms k

signer_keeps : (p : ℕ) (s : Signer) → too_many_attributes p s ≡ None → SignerKeeps s
signer_keeps p s e =
    let (signed, unsigned) = none_both _ _ e in
    record { signed = list_keeps attribute_tree signed_tree (signed_at p s) (Some s.signed) signed; unsigned = list_keeps attribute_tree unsigned_tree (unsigned_at p s) s.unsigned unsigned }

signer_none : (p : ℕ) (s : Signer) → SignerKeeps s → too_many_attributes p s ≡ None
signer_none p s k = both_none _ _ (list_none attribute_tree signed_tree (signed_at p s) (Some s.signed) k.signed) (list_none attribute_tree unsigned_tree (unsigned_at p s) s.unsigned k.unsigned)

signers_keep : (n p : ℕ) (ss : List Signer) → too_many_signers n p ss ≡ None → (length ss ≤ n) × AllByRecursion SignerKeeps ss
signers_keep n p [] e = (omega arith, tt)
signers_keep zero p (s ∷ ss) e = absurd (let z : ◌≡◌ {A = ℕ} 0 1 = cc in omega arith)
signers_keep (suc n) p (s ∷ ss) e =
    let (first, rest) = none_both (too_many_attributes p s) (too_many_signers n (behind p (signer_tree s)) ss) e in
    let (l, all) = signers_keep n (behind p (signer_tree s)) ss rest in
    (omega arith, (signer_keeps p s first, all))

signers_none : (n p : ℕ) (ss : List Signer) → length ss ≤ n → AllByRecursion SignerKeeps ss → too_many_signers n p ss ≡ None
signers_none n p [] l a = refl
signers_none zero p (s ∷ ss) l a = absurd (omega arith)
signers_none (suc n) p (s ∷ ss) l (k, a) = both_none _ _ (signer_none p s k) (signers_none n _ ss (omega arith) a)

pub none_too_many : NoneTooMany
none_too_many f = (keeps, none)
  where
    keeps : first_too_many_of f ≡ None → Keeps f
    keeps e =
        let (certificates, rest) = none_both _ _ e in
        let (revocations, signers) = none_both _ _ rest in
        let (l, all) = signers_keep most_signers (inside (signers_at f) (signers_tree f)) f.signers signers in
        record { certificates = list_keeps (λ t. t) certificates_tree (certificates_at f) f.certificates certificates; revocations = list_keeps (λ t. t) revocations_tree (revocations_at f) f.revocations revocations; signers = l; each = all }

    none : Keeps f → first_too_many_of f ≡ None
    none k =
        both_none _ _ (list_none (λ t. t) certificates_tree (certificates_at f) f.certificates k.certificates)
        (both_none _ _ (list_none (λ t. t) revocations_tree (revocations_at f) f.revocations k.revocations) (signers_none most_signers (inside (signers_at f) (signers_tree f)) f.signers k.signers k.each))
