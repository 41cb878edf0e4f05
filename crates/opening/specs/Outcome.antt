-- What calls answer: a file that cannot be read is refused as a reading refuses it.
use Rattle.std.specs.Prelude.{◌≡◌, ℕ, List, Some, None, Ok, Err, Option, Result}
use Rattle.model.specs.Parts.{Signer}
use Rattle.model.specs.Files.{File}
use Rattle.archive.specs.declared.answers.Reading.{Reading}
use Rattle.archive.specs.declared.refusal.Refusal.{Refusal as ReadingRefusal}
use Rattle.archive.specs.declared.refusal.Refusal.TheVariants.{NoSigner}
use Rattle.archive.specs.Opened.{Shut as ShutBy}
use Rattle.archive.specs.Outcome.{reading_of, Refused as RefusedBy}
use Rattle.opening.specs.declared.refusal.Refusal.{Refusal}
use Rattle.opening.specs.declared.refusal.Refusal.TheVariants.{Unread}

-- the refusal is that of a reading
abbrev pub AsUnread : (ReadingRefusal → Type 0) → Refusal → Type 0
AsUnread Why e = (r : ReadingRefusal) × Why r × (e ≡ Unread r)

-- why the file, the first n bytes of the buffer, is not opened
abbrev pub Shut : List ℕ → ℕ → Refusal → Type 0
Shut buffer n e = AsUnread (ShutBy buffer n) e

-- why it is refused, or its signer k is not there: the first reason
abbrev pub Refused : List ℕ → ℕ → ℕ → Refusal → Type 0
Refused buffer n k e = AsUnread (RefusedBy buffer n k) e

-- what is told of a signer that may be there
abbrev pub told_of : File → Option Signer → Result Reading Refusal
told_of f None = Err (Unread NoSigner)
told_of f (Some s) = Ok (reading_of f s)
