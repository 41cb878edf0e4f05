-- What is read of a file's content and a given one, where the source of the file's content is found.
use Rattle.std.proofs.Common.{◌≡◌, ℕ, Bool, true, false, List, Some, None, Ok, Err, Option, Result, is_ok, sym, refl, subst, arith}
use Rattle.std.specs.Result.{MatchResult}
use Rattle.digest.specs.declared.refusal.Refusal.{Refusal}
use Rattle.fields.specs.Placed.{mapped}
use Rattle.content.specs.declared.contents.FileContent.{FileContent}
use Rattle.content.specs.Few.{few_content}
use Rattle.content.specs.Sources.{TooMany, bytes_of}
use Rattle.imprint.specs.declared.digests.ContentDigest.{ContentDigest}
use Rattle.imprint.specs.declared.fault.ContentFault.{ContentFault}
use Rattle.imprint.specs.declared.fault.ContentFault.TheVariants.{TwoContents}
use Rattle.imprint.specs.Contents.{chosen}
use Rattle.imprint.specs.Digests.{digest_bytes_of, Digests, DigestsIn}

-- a source never has too many bytes
source_few : (own : Option FileContent) → TooMany (mapped bytes_of own) → ⊥
source_few None l = elim l [ ]
source_few (Some content) l = omega (arith, l, few_content content)

-- the answer where a source of the file's content is found and the source that is given stands for these bytes
abbrev Reads : (List ℕ → List ℕ) → Option FileContent → Option (List ℕ) → Result ContentDigest ContentFault → Type 0
Reads D own given r = Digests D (chosen (mapped bytes_of own) given) given r

-- the file has content, and none is given
pub own_digests : (D : List ℕ → List ℕ) (own : Option FileContent) (content : FileContent) (given : Option (List ℕ)) (d : ContentDigest) → own ≡ Some content → given ≡ None →
    digest_bytes_of d ≡ D (bytes_of content) → Reads D own given (Ok d)
own_digests D own content given d o n e =
    subst (λ (x : Option FileContent). Reads D x given (Ok d)) (sym o) (subst (λ (x : Option (List ℕ)). Reads D (Some content) x (Ok d)) (sym n) e)

-- the file has content, and another is given
pub both_told : (D : List ℕ → List ℕ) (own : Option FileContent) (content : FileContent) (given : Option (List ℕ)) (bytes : List ℕ) → own ≡ Some content → given ≡ Some bytes →
    Reads D own given (Err TwoContents)
both_told D own content given bytes o n =
    subst (λ (x : Option FileContent). Reads D x given (Err TwoContents)) (sym o) (subst (λ (x : Option (List ℕ)). Reads D (Some content) x (Err TwoContents)) (sym n) refl)

module _ (D : List ℕ → List ℕ) (own : Option FileContent) (given : Option (List ℕ)) (r : Result ContentDigest ContentFault) (d : Reads D own given r) where
  -- the source of the file's content stands for these bytes
  pub digests_at : (bytes : Option (List ℕ)) → mapped bytes_of own ≡ bytes → Digests D (chosen bytes given) given r
  digests_at bytes e = subst (λ (x : Option (List ℕ)). Digests D (chosen x given) given r) e d

  pub digests_in_lem : (bytes : Option (List ℕ)) → mapped bytes_of own ≡ bytes → DigestsIn D bytes given r
  digests_in_lem bytes e = record {
    few = λ _. digests_at bytes e;
    long = λ l. absurd (source_few own (subst TooMany (sym e) l));
  }

same_ok : (x y : Option FileContent) → ◌≡◌ {A = Result (Option FileContent) ContentFault} (Ok x) (Ok y) → x ≡ y
same_ok x y e = cc

not_both : {b : Bool} → true ≡ b → false ≡ b → ⊥
not_both p q = let z : ◌≡◌ {A = ℕ} 0 1 = cc in omega arith

-- what is said of the source that was found holds of it, under another error too
pub found_own : (r : Result (Option FileContent) Refusal) {own : Option FileContent} (P : Option FileContent → Type 0) (Q R : Refusal → Type 0) →
    MatchResult r (λ x. ◌≡◌ {A = Result (Option FileContent) ContentFault} (Ok own) (Ok x)) R → true ≡ is_ok r → MatchResult r P Q → P own
found_own (Ok x) {own} P Q R e v p = subst P (sym (same_ok own x e)) p
found_own (Err d) P Q R e v p = absurd (not_both v refl)

-- a source that is always found is not refused
pub not_refused : (r : Result (Option FileContent) Refusal) (P : Option FileContent → Type 0) → MatchResult r P (λ _. ⊥) → false ≡ is_ok r → ⊥
not_refused (Ok x) P p v = not_both refl v
not_refused (Err d) P p v = p
