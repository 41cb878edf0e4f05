-- What is answered of an accepted file is told by it.
use Rattle.std.proofs.Common.{◌≡◌, ℕ, Some, None, Ok, Err, Option, Result, ap, ◌∙◌, arith}
use Rattle.std.specs.List.{slice_get}
use Rattle.model.specs.Parts.{Signer}
use Rattle.model.specs.Files.{File}
use Rattle.archive.specs.declared.answers.Reading.{Reading}
use Rattle.archive.specs.declared.refusal.Refusal.{Refusal as ReadingRefusal}
use Rattle.archive.specs.Outcome.{told_of as told_in}
use Rattle.archive.proofs.Exact.{exactly as exactly_in}
use Rattle.opening.specs.declared.refusal.Refusal.{Refusal}
use Rattle.opening.specs.declared.refusal.Refusal.TheVariants.{Unread}
use Rattle.opening.specs.Laws.{Exactly}
use Rattle.opening.specs.Outcome.{told_of}

-- what a reading tells is told here
same_reading : (f : File) (o : Option Signer) (x : Reading) → Ok x ≡ told_in f o → Ok x ≡ told_of f o
same_reading f None x e = absurd (let z : ◌≡◌ {A = ℕ} 0 1 = cc in omega arith)
same_reading f (Some s) x e = cc

same_refusal : (f : File) (o : Option Signer) (r : ReadingRefusal) → Err r ≡ told_in f o → Err (Unread r) ≡ told_of f o
same_refusal f None r e = cc
same_refusal f (Some s) r e = absurd (let z : ◌≡◌ {A = ℕ} 0 1 = cc in omega arith)

pub exactly : Exactly
exactly buffer n k (Ok x) o f h a = same_reading f (slice_get f.signers k) x (exactly_in buffer n k (Ok x) o f h a)
exactly buffer n k (Err e) (r, o, q) f h a = ap {B = Result Reading Refusal} Err q ∙ same_refusal f (slice_get f.signers k) r (exactly_in buffer n k (Err r) o f h a)
