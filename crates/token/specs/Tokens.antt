-- Which bytes are a token, where its parts lie, and what is at fault with others.
use Rattle.std.specs.Prelude.{◌≡◌, ℕ, List, Some, None, Option}
use Rattle.der.specs.declared.span.Span.{Span}
use Rattle.der.specs.Spans.{part}
use Rattle.der.specs.Trees.{encode}
use Rattle.cms.specs.declared.located.Content.{Content as Located}
use Rattle.cms.specs.declared.located.Content.TheVariants.{Detached, Plain, Segmented}
use Rattle.cms.specs.Places.{message_at}
use Rattle.model.specs.Parts.{Signer, plain}
use Rattle.model.specs.Files.{File, file_tree, signers_tree}
use Rattle.rules.specs.Offsets.{inside, signers_at}
use Rattle.message.specs.declared.fault.MessageFault.{MessageFault}
use Rattle.message.specs.Formed.{Formed, Within, LiesAt, Faulty}
use Rattle.message.specs.Lies.{SignerLies}
use Rattle.stamp_model.specs.Tokens.{Info, info_tree, token_settings, Token}
use Rattle.token.specs.declared.parts.TokenParts.{TokenParts}
use Rattle.token.specs.declared.parts.TokenFault.{TokenFault}
use Rattle.token.specs.declared.parts.TokenFault.TheVariants.{Message as InMessage, Info as InInfo}
use Rattle.token.specs.Places.{info_at}
use Rattle.token.specs.Told.{Untold}

-- the octet string of plain content
abbrev pub octets_for : Located → Option Span
octets_for Detached = None
octets_for (Plain field octets) = Some octets
octets_for (Segmented field segments) = None

-- the bytes are the token f, with this signer, that tells i, within so many levels
pub record IsToken (levels : ℕ) (bytes : List ℕ) (f : File) (s : Signer) (i : Info) : Type 0 where
  pub formed : Formed token_settings levels bytes f
  pub token : Token f s i

-- and its parts lie where the record says
pub record LiesAsToken (bytes : List ℕ) (parts : TokenParts) (f : File) (s : Signer) (i : Info) : Type 0 where
  pub message : LiesAt parts.message f
  pub signer : SignerLies bytes parts.signer s
  pub place : parts.signer.whole.start ≡ inside (signers_at f) (signers_tree f)
  pub octets : octets_for parts.message.info.content ≡ Some parts.octets
  pub contents : part bytes parts.octets.body parts.octets.end ≡ encode (info_tree i)
  pub info : parts.info ≡ info_at 0 (info_tree i)

abbrev pub TokenAt : ℕ → List ℕ → TokenParts → Type 0
TokenAt levels bytes parts = (f : File) × (s : Signer) × (i : Info) × IsToken levels bytes f s i × LiesAsToken bytes parts f s i

-- a message of the form, whose contents, which begin at `at`, tell nothing
pub record NoInfo (levels : ℕ) (bytes : List ℕ) (at : ℕ) (fault : MessageFault) : Type 0 where
  pub file : File
  pub within : Within token_settings levels bytes file
  pub contents : List ℕ
  pub content : file.content ≡ plain contents
  pub octets : Span
  pub lies : octets_for (message_at 0 (file_tree file)).info.content ≡ Some octets
  pub begins : at ≡ octets.body
  pub untold : Untold contents fault

-- why bytes are no token
abbrev pub NoToken : ℕ → List ℕ → TokenFault → Type 0
NoToken levels bytes (InMessage fault) = Faulty token_settings levels bytes fault
NoToken levels bytes (InInfo at fault) = NoInfo levels bytes at fault
