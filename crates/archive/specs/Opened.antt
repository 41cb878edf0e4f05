-- Files that are opened, and their signers.
use Rattle.std.specs.Prelude.{◌≡◌, ℕ, List, take, Some, slice_get}
use Rattle.cms.specs.declared.located.Message.{Message}
use Rattle.model.specs.Parts.{Signer}
use Rattle.model.specs.Files.{File}
use Rattle.message.specs.Formed.{LiesAt}
use Rattle.message.specs.Lies.{SignerLies}
use Rattle.archive.specs.declared.opened.Opened.{Opened}
use Rattle.archive.specs.declared.refusal.Refusal.{Refusal}
use Rattle.archive.specs.declared.refusal.Refusal.TheVariants.{Length, Element, Field, Count, Rule, NoSigner}
use Rattle.archive.specs.Accepted.{Fits, Accepted}
use Rattle.archive.specs.Steps.{RefusedFile}

-- the file, the first n bytes of the buffer, is f, and is accepted
pub record Opens (buffer : List ℕ) (n : ℕ) (f : File) : Type 0 where
  pub fits : Fits buffer n
  pub accepted : Accepted (take n buffer) f

-- and its parts lie where the record says
abbrev pub OpensAt : List ℕ → ℕ → Message → Type 0
OpensAt buffer n m = (f : File) × Opens buffer n f × LiesAt m f

-- why it is not opened
abbrev pub Shut : List ℕ → ℕ → Refusal → Type 0
Shut buffer n Length = Fits buffer n → ⊥
Shut buffer n (Element fault) = Fits buffer n × RefusedFile (take n buffer) (Element fault)
Shut buffer n (Field p) = Fits buffer n × RefusedFile (take n buffer) (Field p)
Shut buffer n (Count p) = Fits buffer n × RefusedFile (take n buffer) (Count p)
Shut buffer n (Rule p) = Fits buffer n × RefusedFile (take n buffer) (Rule p)
Shut buffer n NoSigner = ⊥

-- signer k of the file is s
pub record OpensSigner (buffer : List ℕ) (n k : ℕ) (f : File) (s : Signer) : Type 0 where
  pub opens : Opens buffer n f
  pub signer : slice_get f.signers k ≡ Some s

-- and both lie where the record says
pub record SignerOpened (buffer : List ℕ) (n k : ℕ) (o : Opened) : Type 0 where
  pub file : File
  pub signer : Signer
  pub opens : OpensSigner buffer n k file signer
  pub message : LiesAt o.message file
  pub lies : SignerLies (take n buffer) o.signer signer
