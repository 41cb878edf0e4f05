-- What the definitions give together.
use Rattle.std.specs.Prelude.{◌≡◌, ℕ, List}
use Rattle.cms.specs.declared.settings.Settings.{Settings}
use Rattle.model.specs.Files.{File}
use Rattle.message.specs.declared.fault.MessageFault.{MessageFault}
use Rattle.message.specs.Formed.{Formed, Within, Faulty}

-- bytes are one message at most
abbrev pub OneFormed : Type 0
OneFormed = (settings settings' : Settings) (levels : ℕ) (bytes : List ℕ) (f f' : File) → Formed settings levels bytes f → Formed settings' levels bytes f' → f ≡ f'

-- bytes at fault are no message within the limits
abbrev pub NeverBoth : Type 0
NeverBoth = (settings : Settings) (levels : ℕ) (bytes : List ℕ) (fault : MessageFault) (f : File) → Faulty settings levels bytes fault → Within settings levels bytes f → ⊥
