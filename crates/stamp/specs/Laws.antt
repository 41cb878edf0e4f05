-- What the definitions give together.
use Rattle.std.specs.Prelude.{◌≡◌, ℕ, List, None, ◌≢◌}
use Rattle.model.specs.Parts.{Signer}
use Rattle.model.specs.Files.{File}
use Rattle.stamp_model.specs.Indexes.{Index}
use Rattle.stamp_model.specs.Tokens.{Info}
use Rattle.token.specs.Tokens.{IsToken}
use Rattle.stamp_model.specs.Stamps.{Stamp}
use Rattle.message.specs.declared.fault.MessageFault.{MessageFault}
use Rattle.stamp.specs.declared.parts.StampFault.{StampFault}
use Rattle.stamp.specs.Indexed.{IsIndex, NoIndex}
use Rattle.stamp.specs.Stamped.{token_levels, IsStamp, NoStamp, NotBare}

-- an index is not at fault
abbrev pub NeverMisindexed : Type 0
NeverMisindexed = (levels : ℕ) (bytes : List ℕ) (fault : MessageFault) (x : Index) → NoIndex levels bytes fault → IsIndex levels bytes x → ⊥

-- a stamp is not at fault
abbrev pub NeverBoth : Type 0
NeverBoth = (bytes : List ℕ) (fault : StampFault) (st : Stamp) → NoStamp bytes fault → IsStamp bytes st → ⊥

-- bytes are one stamp at most
abbrev pub OneStamp : Type 0
OneStamp = (bytes : List ℕ) (st st' : Stamp) → IsStamp bytes st → IsStamp bytes st' → st ≡ st'

-- a token without unsigned attributes is not at fault
abbrev pub NeverBurdened : Type 0
NeverBurdened = (bytes : List ℕ) (fault : StampFault) (f : File) (s : Signer) (i : Info) → NotBare bytes fault → IsToken token_levels bytes f s i → s.unsigned ≢ None
