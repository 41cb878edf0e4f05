-- What `read` answers.
use Rattle.std.specs.Prelude.{◌≡◌, ℕ, List, length, take, Some, None, Ok, Err, Option, Result, slice_get}
use Rattle.model.specs.Parts.{given, Signer}
use Rattle.model.specs.Files.{File}
use Rattle.rules.specs.Forms.{form_of, has_policy_of}
use Rattle.archive.specs.declared.answers.Reading.{Reading}
use Rattle.archive.specs.declared.refusal.Refusal.{Refusal}
use Rattle.archive.specs.declared.refusal.Refusal.TheVariants.{Length, Element, Field, Count, Rule, NoSigner}
use Rattle.archive.specs.Accepted.{Fits, Accepted}
use Rattle.archive.specs.Opened.{Shut}

-- what is told of signer s of the file f
abbrev pub reading_of : File → Signer → Reading
reading_of f s = record {
  form = form_of s;
  policy = has_policy_of s;
  signers = length f.signers;
  certificates = length (given f.certificates);
  revocations = length (given f.revocations);
}

-- what is told of a signer that may be there
abbrev pub told_of : File → Option Signer → Result Reading Refusal
told_of f None = Err NoSigner
told_of f (Some s) = Ok (reading_of f s)

-- why the file, the first n bytes of the buffer, is refused: the first reason
abbrev pub Refused : List ℕ → ℕ → ℕ → Refusal → Type 0
Refused buffer n k Length = Shut buffer n Length
Refused buffer n k (Element fault) = Shut buffer n (Element fault)
Refused buffer n k (Field p) = Shut buffer n (Field p)
Refused buffer n k (Count p) = Shut buffer n (Count p)
Refused buffer n k (Rule p) = Shut buffer n (Rule p)
Refused buffer n k NoSigner = Fits buffer n × ((f : File) × Accepted (take n buffer) f × (slice_get f.signers k ≡ None))

-- what is served: the file is accepted, and its signer k is told of
abbrev pub Served : List ℕ → ℕ → ℕ → Reading → Type 0
Served buffer n k reading = Fits buffer n × ((f : File) × Accepted (take n buffer) f × ((s : Signer) × (slice_get f.signers k ≡ Some s) × (reading ≡ reading_of f s)))
