-- What is answered of an accepted file.
use Rattle.std.specs.Prelude.{◌≡◌, ℕ, List, take, Result, MatchResult, slice_get}
use Rattle.model.specs.Files.{File}
use Rattle.archive.specs.declared.answers.Reading.{Reading}
use Rattle.archive.specs.Accepted.{Fits, Accepted}
use Rattle.archive.specs.Outcome.{Served}
use Rattle.opening.specs.declared.refusal.Refusal.{Refusal}
use Rattle.opening.specs.Outcome.{Refused, told_of}

-- what `read` may answer
abbrev pub Outcome : List ℕ → ℕ → ℕ → Result Reading Refusal → Type 0
Outcome buffer n k r = MatchResult r (Served buffer n k) (Refused buffer n k)

-- where the bytes are those of a file that keeps every rule, the answer is told by that file:
-- it is served exactly when the signer is there, and refused with 6 when it is not
abbrev pub Exactly : Type 0
Exactly = (buffer : List ℕ) (n k : ℕ) (r : Result Reading Refusal) → Outcome buffer n k r → (f : File) → Fits buffer n → Accepted (take n buffer) f →
    r ≡ told_of f (slice_get f.signers k)
