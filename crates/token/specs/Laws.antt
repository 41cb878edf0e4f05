-- What the definitions give together.
use Rattle.std.specs.Prelude.{ℕ, List}
use Rattle.model.specs.Parts.{Signer}
use Rattle.model.specs.Files.{File}
use Rattle.message.specs.declared.fault.MessageFault.{MessageFault}
use Rattle.stamp_model.specs.Tokens.{Info}
use Rattle.token.specs.declared.parts.TokenFault.{TokenFault}
use Rattle.token.specs.Told.{Tells, Untold}
use Rattle.token.specs.Tokens.{IsToken, NoToken}

-- bytes that tell something are not at fault
abbrev pub NeverUntold : Type 0
NeverUntold = (bytes : List ℕ) (fault : MessageFault) (i : Info) → Untold bytes fault → Tells bytes i → ⊥

-- a token is not at fault
abbrev pub NeverBoth : Type 0
NeverBoth = (levels : ℕ) (bytes : List ℕ) (fault : TokenFault) (f : File) (s : Signer) (i : Info) → NoToken levels bytes fault → IsToken levels bytes f s i → ⊥
