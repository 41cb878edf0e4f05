-- The law of the limits: nothing is one too many exactly when every list keeps its limit.
use Rattle.std.specs.Prelude.{◌≡◌, ◌≤◌, List, length, None}
use Rattle.std.specs.List.{AllByRecursion}
use Rattle.model.specs.Parts.{Signer}
use Rattle.model.specs.Files.{File}
use Rattle.model.specs.Shapes.{IfThere}
use Rattle.rules.specs.Limits.{most_entries, most_signers, first_too_many_of}

-- a list that is not that of the signers
abbrev pub Short : {M : Type 0} → List M → Type 0
Short ms = length ms ≤ most_entries

-- a signer, in both its lists
pub record SignerKeeps (s : Signer) : Type 0 where
  pub signed : Short s.signed
  pub unsigned : IfThere Short s.unsigned

-- a file, in all its lists
pub record Keeps (f : File) : Type 0 where
  pub certificates : IfThere Short f.certificates
  pub revocations : IfThere Short f.revocations
  pub signers : length f.signers ≤ most_signers
  pub each : AllByRecursion SignerKeeps f.signers

abbrev pub NoneTooMany : Type 0
NoneTooMany = (f : File) → (first_too_many_of f ≡ None → Keeps f) × (Keeps f → first_too_many_of f ≡ None)
