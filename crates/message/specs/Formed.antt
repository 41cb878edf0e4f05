-- Which bytes are a message of a form, and what is at fault with others.
use Rattle.std.specs.Prelude.{◌≡◌, ℕ, List, ◌++◌, Some, None, Option}
use Rattle.der.specs.Trees.{Tree, Valid, encode}
use Rattle.der.specs.Faults.{InElement}
use Rattle.cms.specs.declared.located.Message.{Message}
use Rattle.cms.specs.declared.settings.Settings.{Settings}
use Rattle.cms.specs.Grammar.{first_break}
use Rattle.cms.specs.Places.{message_at}
use Rattle.model.specs.Files.{File, file_tree, file_bytes}
use Rattle.model.specs.Shapes.{Shape}
use Rattle.rules.specs.Limits.{first_too_many_of}
use Rattle.message.specs.declared.fault.MessageFault.{MessageFault}
use Rattle.message.specs.declared.fault.MessageFault.TheVariants.{Element, Field, Count}

-- the bytes are the message f: its parts have their shape, and there are at most so many levels
pub record Formed (settings : Settings) (levels : ℕ) (bytes : List ℕ) (f : File) : Type 0 where
  pub shape : Shape settings f
  pub valid : Valid (file_tree f) levels
  pub bytes_are : bytes ≡ file_bytes f

-- and it keeps the limits
pub record Within (settings : Settings) (levels : ℕ) (bytes : List ℕ) (f : File) : Type 0 where
  pub formed : Formed settings levels bytes f
  pub limits : first_too_many_of f ≡ None

-- the parts of a message lie where the record says
abbrev pub LiesAt : Message → File → Type 0
LiesAt m f = m ≡ message_at 0 (file_tree f)

abbrev pub FormedAt : Settings → ℕ → List ℕ → Message → Type 0
FormedAt settings levels bytes m = (f : File) × Formed settings levels bytes f × LiesAt m f

abbrev pub WithinAt : Settings → ℕ → List ℕ → Message → Type 0
WithinAt settings levels bytes m = (f : File) × Within settings levels bytes f × LiesAt m f

-- the bytes begin with an element, whose first break by these rules is at p
pub record BreaksAt (break_of : ℕ → Tree → List ℕ → Option ℕ) (levels : ℕ) (bytes : List ℕ) (p : ℕ) : Type 0 where
  pub tree : Tree
  pub surplus : List ℕ
  pub valid : Valid tree levels
  pub bytes_are : encode tree ++ surplus ≡ bytes
  pub first : break_of 0 tree surplus ≡ Some p

-- by the rules of a message
abbrev pub BrokenAt : Settings → ℕ → List ℕ → ℕ → Type 0
BrokenAt settings levels bytes p = BreaksAt (first_break settings) levels bytes p

-- why bytes are not of the form
abbrev pub Unformed : Settings → ℕ → List ℕ → MessageFault → Type 0
Unformed settings levels bytes (Element fault) = InElement levels bytes 0 fault
Unformed settings levels bytes (Field p) = BrokenAt settings levels bytes p
Unformed settings levels bytes (Count p) = ⊥

-- or pass a limit
abbrev pub Faulty : Settings → ℕ → List ℕ → MessageFault → Type 0
Faulty settings levels bytes (Element fault) = Unformed settings levels bytes (Element fault)
Faulty settings levels bytes (Field p) = Unformed settings levels bytes (Field p)
Faulty settings levels bytes (Count p) = (f : File) × Formed settings levels bytes f × (first_too_many_of f ≡ Some p)
