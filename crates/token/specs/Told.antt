-- Which bytes tell something as a token's contents do, and what is at fault with others.
use Rattle.std.specs.Prelude.{◌≡◌, ℕ, List}
use Rattle.der.specs.Trees.{Valid, encode}
use Rattle.der.specs.Faults.{InElement}
use Rattle.message.specs.declared.fault.MessageFault.{MessageFault}
use Rattle.message.specs.declared.fault.MessageFault.TheVariants.{Element, Field, Count}
use Rattle.message.specs.Formed.{BreaksAt}
use Rattle.stamp_model.specs.Tokens.{Info, info_tree}
use Rattle.token.specs.declared.located.InfoParts.{InfoParts}
use Rattle.token.specs.Grammar.{first_info_break}
use Rattle.token.specs.Places.{info_at}

-- the bytes tell i, within 32 levels of their own
pub record Tells (bytes : List ℕ) (i : Info) : Type 0 where
  pub valid : Valid (info_tree i) 32
  pub bytes_are : bytes ≡ encode (info_tree i)

-- and the parts lie where the record says
abbrev pub ToldAt : List ℕ → InfoParts → Type 0
ToldAt bytes parts = (i : Info) × Tells bytes i × (parts ≡ info_at 0 (info_tree i))

-- the bytes begin with an element, whose first break is at p
abbrev pub Misfit : List ℕ → ℕ → Type 0
Misfit bytes p = BreaksAt first_info_break 32 bytes p

-- why bytes tell nothing
abbrev pub Untold : List ℕ → MessageFault → Type 0
Untold bytes (Element fault) = InElement 32 bytes 0 fault
Untold bytes (Field p) = Misfit bytes p
Untold bytes (Count p) = ⊥
