-- Which bytes are a file that is accepted.
use Rattle.std.specs.Prelude.{◌≡◌, ℕ, ◌<◌, ◌≤◌, List, length, None}
use Rattle.cms.specs.declared.settings.Settings.{Settings}
use Rattle.cms.specs.declared.settings.SignerCount.TheVariants.{AtLeastOne}
use Rattle.cms.specs.declared.settings.ContentForm.TheVariants.{Any}
use Rattle.model.specs.Files.{File}
use Rattle.message.specs.Formed.{Formed as FormedBy}
use Rattle.rules.specs.Limits.{first_too_many_of}
use Rattle.rules.specs.Attributes.{broken_rule_of}

-- a file has at least one signer, and any content
abbrev pub file_settings : Settings
file_settings = record { signers = AtLeastOne; content = Any }

-- a length that a file in a buffer may have
pub record Fits (buffer : List ℕ) (n : ℕ) : Type 0 where
  pub some : 0 < n
  pub short : n ≤ 65535
  pub there : n ≤ length buffer

-- the bytes are those of a file by its form, with at most 32 levels
abbrev pub Formed : List ℕ → File → Type 0
Formed bytes f = FormedBy file_settings 32 bytes f

-- and it keeps the limits and the rules of attributes
pub record Accepted (bytes : List ℕ) (f : File) : Type 0 where
  pub formed : Formed bytes f
  pub limits : first_too_many_of f ≡ None
  pub rules : broken_rule_of f ≡ None
