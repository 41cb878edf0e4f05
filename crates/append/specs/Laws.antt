-- What stays true of a file when its lists grow.
use Rattle.std.specs.Prelude.{◌≡◌, ℕ, zero, suc, ◌<◌, ◌≤◌, false, List, [], ◌∷◌, ◌++◌, length, None}
use Rattle.std.specs.List.{AllByRecursion}
use Rattle.der.specs.Trees.{Tree, Valid, Valids}
use Rattle.cms.specs.Records.{certificate_tags, revocation_tags}
use Rattle.cms.specs.declared.settings.Settings.{Settings}
use Rattle.model.specs.Parts.{Attribute, attribute_tree, row, row_of, Signer}
use Rattle.model.specs.Files.{File, file_tree, file_bytes}
use Rattle.model.specs.Shapes.{AttributeShape, AllowedTags, Shape}
use Rattle.rules.specs.Attributes.{misplaced, broken_rule_of}
use Rattle.rules.specs.Limits.{most_entries, first_too_many_of}
use Rattle.append.specs.Appended.{given, with_certificates, with_revocations, with_attributes}

-- a file by its form: its parts have their shape, and there are at most 32 levels
pub record Formed (settings : Settings) (f : File) : Type 0 where
  pub shape : Shape settings f
  pub valid : Valid (file_tree f) 32

-- the unsigned attributes of signer number n; none where there is no such signer
abbrev pub unsigned_of : ℕ → List Signer → List Attribute
unsigned_of n [] = []
unsigned_of zero (s ∷ ss) = given s.unsigned
unsigned_of (suc n) (s ∷ ss) = unsigned_of n ss

-- the form: new elements that have an allowed tag and fit in the levels that are left leave a file of the form, if it is short enough
pub record FormKept : Type 0 where
  pub certificates : (settings : Settings) (f : File) (new : List Tree) → Formed settings f → AllowedTags certificate_tags new → Valids (row new) 28 →
      length (file_bytes (with_certificates new f)) ≤ 65535 → Formed settings (with_certificates new f)
  pub revocations : (settings : Settings) (f : File) (new : List Tree) → Formed settings f → AllowedTags revocation_tags new → Valids (row new) 28 →
      length (file_bytes (with_revocations new f)) ≤ 65535 → Formed settings (with_revocations new f)
  pub attributes : (settings : Settings) (f : File) (n : ℕ) (new : List Attribute) → Formed settings f → AllByRecursion AttributeShape new → 0 < length new →
      Valids (row_of attribute_tree new) 26 → length (file_bytes (with_attributes n new f)) ≤ 65535 → Formed settings (with_attributes n new f)

-- the limits: where nothing was one too many, nothing is, if the list that grew keeps its limit
pub record LimitsKept : Type 0 where
  pub certificates : (f : File) (new : List Tree) → first_too_many_of f ≡ None → length (given f.certificates ++ new) ≤ most_entries → first_too_many_of (with_certificates new f) ≡ None
  pub revocations : (f : File) (new : List Tree) → first_too_many_of f ≡ None → length (given f.revocations ++ new) ≤ most_entries → first_too_many_of (with_revocations new f) ≡ None
  pub attributes : (f : File) (n : ℕ) (new : List Attribute) → first_too_many_of f ≡ None → length (unsigned_of n f.signers ++ new) ≤ most_entries →
      first_too_many_of (with_attributes n new f) ≡ None

-- the rules of attributes: where none was broken, none is, if no new attribute may stand only among signed ones
pub record RulesKept : Type 0 where
  pub certificates : (f : File) (new : List Tree) → broken_rule_of f ≡ None → broken_rule_of (with_certificates new f) ≡ None
  pub revocations : (f : File) (new : List Tree) → broken_rule_of f ≡ None → broken_rule_of (with_revocations new f) ≡ None
  pub attributes : (f : File) (n : ℕ) (new : List Attribute) → broken_rule_of f ≡ None → AllByRecursion (λ a. misplaced a ≡ false) new → broken_rule_of (with_attributes n new f) ≡ None
