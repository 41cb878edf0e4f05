-- The attributes and the signers of a run lie one behind another, as the file has them.
use Rattle.std.proofs.Common.{◌≡◌, ℕ, zero, suc, ◌-◌, Bool, true, false, cond, ◌||◌, List, [], ◌∷◌, ◌++◌, Some, None, Option, Result, sym, refl, ap, ◌∙◌, subst, arith}
use Rattle.std.specs.List.{list_any, find, slice_get}
use Rattle.std.specs.Option.{option_map}
use Rattle.der.specs.Spans.{part}
use Rattle.fields.specs.Runs.{run_in, run_first}
use Rattle.der.specs.Trees.{Tree}
use Rattle.fields.specs.Rules.{or_else}
use Rattle.fields.proofs.Runs.{Lying, FirstLies, run_on}
use Rattle.cms.specs.declared.located.Attribute.{Attribute as Located}
use Rattle.cms.specs.declared.located.Signer.{Signer as LocatedSigner}
use Rattle.cms.specs.Places.{attribute_at, signer_at}
use Rattle.cms.specs.Records.{attribute_of, attribute_stop, signer_of, signer_stop}
use Rattle.fields.proofs.Standing.{first_at, first_fits}
use Rattle.model.specs.Parts.{Attribute, attribute_tree, Signer, signer_tree, row_of}
use Rattle.rules.specs.declared.kinds.AttributeKind.{AttributeKind}
use Rattle.rules.specs.Attributes.{names, holds, first_with, broken_told_by, first_broken_of, first_faulty}
use Rattle.rules.specs.Offsets.{behind}
use Rattle.rules.specs.Signers.{Signers, SignerThere, signer_number}
use Rattle.rules.specs.Standing.{Row, There}
use Rattle.rules.proofs.Reading.{row_at, row_none, first_attribute, first_there, others}
use Rattle.rules.proofs.SignerReading.{signers_none, first_signer, signer_there, other_signers}

-- an attribute lies at `at`, as the file has it
pub record Fits (levels : ℕ) (file : List ℕ) (at : ℕ) (x : Located) (a : Attribute) : Type 0 where
  pub there : There (levels - 1 - 1) file x a
  pub start : x.whole.start ≡ at
  pub stop : x.whole.end ≡ behind at (attribute_tree a)
  pub alone : Row levels file at x.whole.end (a ∷ [])

-- where nothing is left, the run is at its end
run_none : {X : Type 0} (reading : List ℕ → ℕ → ℕ → Result X ℕ) (stop : X → ℕ) (file : List ℕ) (at end : ℕ) → at ≡ end → run_in reading stop file at end ≡ []
run_none reading stop file at end e = let z : end - at ≡ 0 = omega arith in ap (λ (k : ℕ). run_first reading stop k file at end) z

module _ (levels : ℕ) (file : List ℕ) (end : ℕ) where
  abbrev attributes_at : ℕ → List Located
  attributes_at at = run_in attribute_of attribute_stop file at end

  abbrev pub Attributes : ℕ → List Attribute → List Located → Type 0
  Attributes = Lying (Fits levels file) attribute_stop

  -- attributes that stand in a file are those of their run
  pub row_lying : (at : ℕ) (ms : List Attribute) → Row levels file at end ms → Attributes at ms (attributes_at at)
  row_lying at [] r = subst (Attributes at []) (sym (run_none attribute_of attribute_stop file at end (row_none levels file at end r))) tt
  row_lying at (a ∷ ms) r =
      let here = attribute_at (record { at = at; tree = attribute_tree a }) in
      let one = first_at levels file at end (attribute_tree a) (row_of attribute_tree ms) (row_at levels file at end (a ∷ ms) r) in
      let l = first_fits levels file at end (attribute_tree a) (row_of attribute_tree ms) (row_at levels file at end (a ∷ ms) r) in
      let o = others levels file at end a ms r in
      subst (Attributes at (a ∷ ms)) (sym (run_on attribute_of attribute_stop file end at here (sym (first_attribute levels file at end a ms r)) (omega arith) o.order)) (
        record {
          there = first_there levels file at end a ms r;
          start = refl;
          stop = refl;
          alone = record { valid = one.valid; shape = (r.shape.0, tt); bytes = one.bytes; order = one.order; inside = one.inside };
        },
        row_lying here.whole.end ms o,
      )

  -- whether one of a type is among them
  abbrev pub is_named : (List ℕ → Bool) → Located → Bool
  is_named test x = test (part file x.kind.body x.kind.end)

  named_same : (test : List ℕ → Bool) (at : ℕ) (x : Located) (a : Attribute) → Fits levels file at x a → is_named test x ≡ test a.kind
  named_same test at x a f = ap test f.there.kind

  pub any_holds : (kind : AttributeKind) (at : ℕ) (ms : List Attribute) (xs : List Located) → Attributes at ms xs → list_any (is_named (names kind)) xs ≡ holds kind ms
  any_holds kind at [] [] l = refl
  any_holds kind at [] (x ∷ xs) l = absurd l
  any_holds kind at (a ∷ ms) [] l = absurd l
  any_holds kind at (a ∷ ms) (x ∷ xs) l =
      ap (λ (b : Bool). b || list_any (is_named (names kind)) xs) (named_same (names kind) at x a l.0) ∙ ap (λ (b : Bool). names kind a.kind || b) (any_holds kind (attribute_stop x) ms xs l.1)

  -- where the first lies that passes a test of its type
  abbrev pub start_of : Option Located → Option ℕ
  start_of o = option_map (λ (x : Located). x.whole.start) o

  start_by : (b b' : Bool) (x : Located) (o : Option Located) (p : ℕ) (rest : Option ℕ) → b ≡ b' → x.whole.start ≡ p → start_of o ≡ rest → start_of (cond b (Some x) o) ≡ cond b' (Some p) rest
  start_by true b' x o p rest e s r = ap {B = Option ℕ} Some s ∙ ap (λ (c : Bool). cond c (Some p) rest) e
  start_by false b' x o p rest e s r = r ∙ ap (λ (c : Bool). cond c (Some p) rest) e

  pub find_with : (test : List ℕ → Bool) (at : ℕ) (ms : List Attribute) (xs : List Located) → Attributes at ms xs → start_of (find (is_named test) xs) ≡ first_with (λ a. test a.kind) at ms
  find_with test at [] [] l = refl
  find_with test at [] (x ∷ xs) l = absurd l
  find_with test at (a ∷ ms) [] l = absurd l
  find_with test at (a ∷ ms) (x ∷ xs) l =
      start_by (is_named test x) (test a.kind) x (find (is_named test) xs) at _ (named_same test at x a l.0) l.0.start
      (find_with test (attribute_stop x) ms xs l.1 ∙ ap (λ (p : ℕ). first_with (λ b. test b.kind) p ms) l.0.stop)

-- a signer lies at `at`, as the file has it
pub record SignerFits (levels : ℕ) (file : List ℕ) (at : ℕ) (x : LocatedSigner) (s : Signer) : Type 0 where
  pub placed : x ≡ signer_at (record { at = at; tree = signer_tree s })
  pub there : SignerThere (levels - 1 - 1) file x at s
  pub stop : x.whole.end ≡ behind at (signer_tree s)

module _ (levels : ℕ) (file : List ℕ) (end : ℕ) where
  abbrev pub People : ℕ → List Signer → List LocatedSigner → Type 0
  People = Lying (SignerFits levels file) signer_stop

  -- signers that stand in a file are those of their run
  pub signers_lying : (at : ℕ) (ss : List Signer) → Signers levels file at end ss → People at ss (run_in signer_of signer_stop file at end)
  signers_lying at [] r = subst (People at []) (sym (run_none signer_of signer_stop file at end (signers_none levels file at end r))) tt
  signers_lying at (s ∷ ss) r =
      let here = signer_at (record { at = at; tree = signer_tree s }) in
      let o = other_signers levels file at end s ss r in
      subst (People at (s ∷ ss)) (sym (run_on signer_of signer_stop file end at here (sym (first_signer levels file at end s ss r)) (omega arith) o.order)) (
        record { placed = refl; there = signer_there levels file at end s ss r; stop = refl },
        signers_lying here.whole.end ss o,
      )

  pub get_number : (n at : ℕ) (ss : List Signer) (xs : List LocatedSigner) → People at ss xs → slice_get xs n ≡ signer_number n at ss
  get_number n at [] [] l = refl
  get_number n at [] (x ∷ xs) l = absurd l
  get_number n at (s ∷ ss) [] l = absurd l
  get_number zero at (s ∷ ss) (x ∷ xs) l = ap {B = Option LocatedSigner} Some l.0.placed
  get_number (suc n) at (s ∷ ss) (x ∷ xs) l = get_number n (signer_stop x) ss xs l.1 ∙ ap (λ (p : ℕ). signer_number n p ss) l.0.stop

-- what a signer of the run tells of the place of the first broken rule
module _ (expected : Tree) (levels : ℕ) (file : List ℕ) (at : ℕ) (ss : List Signer) (x : LocatedSigner) (xs : List LocatedSigner) (t : FirstLies (SignerFits levels file) signer_stop at ss x xs) where
  pub broken_found : (p : ℕ) → Some p ≡ broken_told_by expected at t.first → Some p ≡ first_broken_of expected at ss
  broken_found p e =
      sym (ap (first_broken_of expected at) t.split ∙ ap (λ (o : Option ℕ). or_else o (first_broken_of expected (behind at (signer_tree t.first)) t.tail)) (sym e))

  pub broken_missed : None ≡ broken_told_by expected at t.first → first_broken_of expected at ss ≡ first_broken_of expected (signer_stop x) t.tail
  broken_missed e =
      ap (first_broken_of expected at) t.split ∙ ap (λ (o : Option ℕ). or_else o (first_broken_of expected (behind at (signer_tree t.first)) t.tail)) (sym e)
      ∙ ap (λ (p : ℕ). first_broken_of expected p t.tail) (sym t.fits.stop)

-- and an attribute of the first faulty one
module _ (faulty : List Attribute → Attribute → Bool) (levels : ℕ) (file : List ℕ) (at : ℕ) (before ms : List Attribute) (x : Located) (xs : List Located) (t : FirstLies (Fits levels file) attribute_stop at ms x xs) where
  faulty_by : (b : Bool) → faulty before t.first ≡ b → first_faulty faulty before at ms ≡ cond b (Some at) (first_faulty faulty (before ++ t.first ∷ []) (behind at (attribute_tree t.first)) t.tail)
  faulty_by b e =
      ap (first_faulty faulty before at) t.split ∙ ap (λ (c : Bool). cond c (Some at) (first_faulty faulty (before ++ t.first ∷ []) (behind at (attribute_tree t.first)) t.tail)) e

  pub faulty_found : faulty before t.first ≡ true → Some x.whole.start ≡ first_faulty faulty before at ms
  faulty_found e = ap {B = Option ℕ} Some t.fits.start ∙ sym (faulty_by true e)

  pub faulty_missed : faulty before t.first ≡ false → first_faulty faulty before at ms ≡ first_faulty faulty (before ++ t.first ∷ []) (attribute_stop x) t.tail
  faulty_missed e = faulty_by false e ∙ ap (λ (p : ℕ). first_faulty faulty (before ++ t.first ∷ []) p t.tail) (sym t.fits.stop)
