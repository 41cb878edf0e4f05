-- What the steps of `read` find.
use Rattle.std.specs.Prelude.{◌≡◌, ℕ, List, Some, None}
use Rattle.der.specs.Faults.{InElement}
use Rattle.cms.specs.declared.located.Message.{Message}
use Rattle.cms.specs.Places.{message_at}
use Rattle.model.specs.Files.{File, file_tree}
use Rattle.rules.specs.Attributes.{broken_rule_of}
use Rattle.rules.specs.Limits.{first_too_many_of}
use Rattle.message.specs.declared.fault.MessageFault.{MessageFault}
use Rattle.message.specs.declared.fault.MessageFault.TheVariants.{Element as Misformed, Field as Misfield, Count as Overfull}
use Rattle.message.specs.Formed.{BrokenAt}
use Rattle.archive.specs.declared.refusal.Refusal.{Refusal}
use Rattle.archive.specs.declared.refusal.Refusal.TheVariants.{Length, Element, Field, Count, Rule, NoSigner}
use Rattle.archive.specs.Accepted.{file_settings, Formed, Accepted}

-- the refusal of a file whose form is at fault
abbrev pub refusal_of : MessageFault → Refusal
refusal_of (Misformed fault) = Element fault
refusal_of (Misfield p) = Field p
refusal_of (Overfull p) = Count p

-- the bytes are an accepted file, whose parts lie where the record says
abbrev pub AcceptedAt : List ℕ → Message → Type 0
AcceptedAt file m = (f : File) × Accepted file f × (m ≡ message_at 0 (file_tree f))

-- why bytes are no accepted file
abbrev pub RefusedFile : List ℕ → Refusal → Type 0
RefusedFile file Length = ⊥
RefusedFile file (Element fault) = InElement 32 file 0 fault
RefusedFile file (Field p) = BrokenAt file_settings 32 file p
RefusedFile file (Count p) = (f : File) × Formed file f × (first_too_many_of f ≡ Some p)
RefusedFile file (Rule p) = (f : File) × Formed file f × (first_too_many_of f ≡ None) × (broken_rule_of f ≡ Some p)
RefusedFile file NoSigner = ⊥
