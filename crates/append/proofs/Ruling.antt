-- No rule of attributes is broken where none was: it does not matter where the attributes stand.
use Rattle.std.proofs.Common.{◌≡◌, ℕ, zero, suc, Bool, true, false, cond, List, [], ◌∷◌, ◌++◌, Some, None, Option, refl, ap, ◌∙◌, arith}
use Rattle.std.proofs.ByRecursion.{All-append}
use Rattle.std.proofs.lemmas.Bool.{cond-false}
use Rattle.std.specs.List.{AllByRecursion}
use Rattle.der.specs.Trees.{Tree}
use Rattle.fields.specs.Rules.{or_else}
use Rattle.model.specs.Parts.{Attribute, attribute_tree, signed_tree, Signer, signer_tree}
use Rattle.model.specs.Files.{File, content_type_tree, signers_tree}
use Rattle.rules.specs.Attributes.{misplaced, faulty_signed, first_faulty, first_with, first_misplaced_of, lacks, broken_told_by, first_broken_of}
use Rattle.rules.specs.Offsets.{behind, inside, signed_at, unsigned_at, signers_at}
use Rattle.append.specs.Appended.{given, signer_with, signers_with, with_certificates, with_revocations, with_attributes}
use Rattle.append.specs.Laws.{RulesKept}

some_none : {p : ℕ} → Some p ≡ None → ⊥
some_none e = let z : ◌≡◌ {A = ℕ} 0 1 = cc in omega arith

-- a test that fails, and what follows it
passed : (b : Bool) (p : ℕ) (o : Option ℕ) → cond b (Some p) o ≡ None → (b ≡ false) × (o ≡ None)
passed true p o e = absurd (some_none e)
passed false p o e = (refl, e)

both : (a b : Option ℕ) → or_else a b ≡ None → (a ≡ None) × (b ≡ None)
both None b e = (refl, e)
both (Some p) b e = absurd (some_none e)

neither : (a b : Option ℕ) → a ≡ None → b ≡ None → or_else a b ≡ None
neither a b p q = ap (λ (x : Option ℕ). or_else x b) p ∙ q

faulty_moved : (faulty : List Attribute → Attribute → Bool) (before : List Attribute) (p q : ℕ) (ms : List Attribute) → first_faulty faulty before p ms ≡ None → first_faulty faulty before q ms ≡ None
faulty_moved faulty before p q [] e = refl
faulty_moved faulty before p q (a ∷ rest) e =
    let (ok, none) = passed (faulty before a) p _ e in
    cond-false (faulty before a) (Some q) _ ok ∙ faulty_moved faulty (before ++ a ∷ []) (behind p (attribute_tree a)) (behind q (attribute_tree a)) rest none

-- no attribute passes the test, wherever they stand
with_none : (test : Attribute → Bool) (p : ℕ) (ms : List Attribute) → first_with test p ms ≡ None → AllByRecursion (λ a. test a ≡ false) ms
with_none test p [] e = tt
with_none test p (a ∷ rest) e =
    let (ok, none) = passed (test a) p _ e in
    (ok, with_none test (behind p (attribute_tree a)) rest none)

none_with : (test : Attribute → Bool) (p : ℕ) (ms : List Attribute) → AllByRecursion (λ a. test a ≡ false) ms → first_with test p ms ≡ None
none_with test p [] k = refl
none_with test p (a ∷ rest) (ok, k) = cond-false (test a) (Some p) _ ok ∙ none_with test (behind p (attribute_tree a)) rest k

misplaced_moved : (p q : ℕ) (u : Option (List Attribute)) → first_misplaced_of p u ≡ None → first_misplaced_of q u ≡ None
misplaced_moved p q None e = refl
misplaced_moved p q (Some ms) e = none_with misplaced _ ms (with_none misplaced _ ms e)

misplaced_longer : (p q : ℕ) (u : Option (List Attribute)) (new : List Attribute) → first_misplaced_of p u ≡ None → AllByRecursion (λ a. misplaced a ≡ false) new →
    first_misplaced_of q (Some (given u ++ new)) ≡ None
misplaced_longer p q None new e k = none_with misplaced _ new k
misplaced_longer p q (Some ms) new e k = none_with misplaced _ (ms ++ new) (All-append (λ a. misplaced a ≡ false) ms new (with_none misplaced _ ms e) k)

-- a signer, with the same signed attributes, and unsigned ones of which none is misplaced
module _ (t : Tree) (p q : ℕ) (s : Signer) (e : broken_told_by t p s ≡ None) where
  kept : (lacks s.signed ≡ false) × (first_faulty (faulty_signed t) [] (inside (signed_at q s) (signed_tree s.signed)) s.signed ≡ None) × (first_misplaced_of (unsigned_at p s) s.unsigned ≡ None)
  kept =
      let (ok, rest) = passed (lacks s.signed) p _ e in
      let (signed, unsigned) = both _ _ rest in
      (ok, faulty_moved (faulty_signed t) [] _ _ s.signed signed, unsigned)

  signer_moved : broken_told_by t q s ≡ None
  signer_moved = cond-false (lacks s.signed) (Some q) _ kept.0 ∙ neither _ _ kept.1 (misplaced_moved _ _ s.unsigned kept.2)

  signer_longer : (new : List Attribute) → AllByRecursion (λ a. misplaced a ≡ false) new → broken_told_by t q (signer_with new s) ≡ None
  signer_longer new k =
      let (ok, signed, unsigned) = kept in
      cond-false (lacks s.signed) (Some q) _ ok
      ∙ neither _ _ (faulty_moved (faulty_signed t) [] _ _ s.signed signed) (misplaced_longer _ _ s.unsigned new unsigned k)

broken_moved : (t : Tree) (p q : ℕ) (ss : List Signer) → first_broken_of t p ss ≡ None → first_broken_of t q ss ≡ None
broken_moved t p q [] e = refl
broken_moved t p q (s ∷ ss) e =
    let (first, rest) = both (broken_told_by t p s) (first_broken_of t (behind p (signer_tree s)) ss) e in
    neither _ _ (signer_moved t p q s first) (broken_moved t (behind p (signer_tree s)) (behind q (signer_tree s)) ss rest)

broken_longer : (t : Tree) (n p q : ℕ) (ss : List Signer) (new : List Attribute) → first_broken_of t p ss ≡ None → AllByRecursion (λ a. misplaced a ≡ false) new →
    first_broken_of t q (signers_with n new ss) ≡ None
broken_longer t n p q [] new e k = refl
broken_longer t zero p q (s ∷ ss) new e k =
    let (first, rest) = both (broken_told_by t p s) (first_broken_of t (behind p (signer_tree s)) ss) e in
    neither _ _ (signer_longer t p q s first new k) (broken_moved t (behind p (signer_tree s)) (behind q (signer_tree (signer_with new s))) ss rest)
broken_longer t (suc n) p q (s ∷ ss) new e k =
    let (first, rest) = both (broken_told_by t p s) (first_broken_of t (behind p (signer_tree s)) ss) e in
    neither _ _ (signer_moved t p q s first) (broken_longer t n (behind p (signer_tree s)) (behind q (signer_tree s)) ss new rest k)

-- where the signers of a file begin
abbrev from : File → ℕ
from f = inside (signers_at f) (signers_tree f)

pub rules_kept : RulesKept
rules_kept = record {
  certificates = λ f new e. broken_moved (content_type_tree f) (from f) (from (with_certificates new f)) f.signers e;
  revocations = λ f new e. broken_moved (content_type_tree f) (from f) (from (with_revocations new f)) f.signers e;
  attributes = λ f n new e k. broken_longer (content_type_tree f) n (from f) (from (with_attributes n new f)) f.signers new e k;
}
