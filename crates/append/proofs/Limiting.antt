-- Limits are kept where the list that grew keeps its limit.
use Rattle.std.proofs.Common.{◌≡◌, ℕ, zero, suc, ◌≤◌, List, [], ◌∷◌, ◌++◌, length, ap, arith}
use Rattle.std.specs.List.{AllByRecursion}
use Rattle.model.specs.Parts.{Attribute, Signer}
use Rattle.rules.specs.Limits.{most_entries}
use Rattle.limits.specs.Laws.{SignerKeeps}
use Rattle.limits.proofs.Keeping.{none_too_many}
use Rattle.append.specs.Appended.{signers_with, with_certificates, with_revocations, with_attributes}
use Rattle.append.specs.Laws.{unsigned_of, LimitsKept}

pub same_count : (n : ℕ) (new : List Attribute) (ss : List Signer) → length (signers_with n new ss) ≡ length ss
same_count n new [] = omega arith
same_count zero new (s ∷ ss) = omega arith
same_count (suc n) new (s ∷ ss) = ap suc (same_count n new ss)

signers_keep : (n : ℕ) (new : List Attribute) (ss : List Signer) → AllByRecursion SignerKeeps ss → length (unsigned_of n ss ++ new) ≤ most_entries → AllByRecursion SignerKeeps (signers_with n new ss)
signers_keep n new [] k l = tt
signers_keep zero new (s ∷ ss) (k, ks) l = (record { signed = k.signed; unsigned = l }, ks)
signers_keep (suc n) new (s ∷ ss) (k, ks) l = (k, signers_keep n new ss ks l)

pub limits_kept : LimitsKept
limits_kept = record {
  certificates = λ f new e l.
      let k = (none_too_many f).0 e in
      (none_too_many (with_certificates new f)).1 (record { certificates = l; revocations = k.revocations; signers = k.signers; each = k.each });
  revocations = λ f new e l.
      let k = (none_too_many f).0 e in
      (none_too_many (with_revocations new f)).1 (record { certificates = k.certificates; revocations = l; signers = k.signers; each = k.each });
  attributes = λ f n new e l.
      let k = (none_too_many f).0 e in
      (none_too_many (with_attributes n new f)).1
      (record { certificates = k.certificates; revocations = k.revocations; signers = omega (arith, same_count n new f.signers, k.signers); each = signers_keep n new f.signers k.each l });
}
