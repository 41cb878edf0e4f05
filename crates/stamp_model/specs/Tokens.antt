-- Time-stamp tokens: signed messages whose content tells what was stamped.
use Rattle.std.specs.Prelude.{◌≡◌, ℕ, List, [], ◌∷◌, None}
use Rattle.der.specs.Trees.{Tree, leaf, node, Forest, none, more, encode, Valid}
use Rattle.cms.specs.declared.settings.Settings.{Settings}
use Rattle.cms.specs.declared.settings.SignerCount.TheVariants.{ExactlyOne}
use Rattle.cms.specs.declared.settings.ContentForm.TheVariants.{TimeStampInfo}
use Rattle.model.specs.Parts.{Signer, plain}
use Rattle.model.specs.Files.{File}
use Rattle.model.specs.Shapes.{Shape}
use Rattle.rules.specs.Limits.{first_too_many_of}
use Rattle.stamp_model.specs.Algorithms.{Algorithm, algorithm_tree}

-- what was stamped: a policy's identifier, the digest's name, the imprint, and whatever else follows
pub record Info : Type 0 where
  pub policy : List ℕ
  pub algorithm : Algorithm
  pub imprint : List ℕ
  pub rest : Forest

-- the imprint field
abbrev pub imprint_tree : Info → Tree
imprint_tree i = node 0x30 (more (algorithm_tree i.algorithm) (more (leaf 4 i.imprint) none))

abbrev pub info_tree : Info → Tree
info_tree i = node 0x30 (more (leaf 2 (1 ∷ [])) (more (leaf 6 i.policy) (more (imprint_tree i) i.rest)))

-- a token has one signer, and plain content of its own type
abbrev pub token_settings : Settings
token_settings = record { signers = ExactlyOne; content = TimeStampInfo }

-- the message f is a token with this one signer that tells this; the rules of attributes do not bind it
pub record Token (f : File) (s : Signer) (i : Info) : Type 0 where
  pub shape : Shape token_settings f
  pub limits : first_too_many_of f ≡ None
  pub signer : f.signers ≡ s ∷ []
  pub content : f.content ≡ plain (encode (info_tree i))
  pub levels : Valid (info_tree i) 32
