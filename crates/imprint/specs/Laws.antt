-- What the definitions give together.
use Rattle.std.specs.Prelude.{◌≡◌, ℕ, ◌≤◌, List, length, Some, None, Option}
use Rattle.digest.specs.Took.{most}
use Rattle.model.specs.Parts.{Content, detached, Signer}
use Rattle.model.specs.Files.{File}
use Rattle.content.specs.Contents.{content_bytes}
use Rattle.stamp_model.specs.Covering.{input_of}
use Rattle.stamp_model.specs.Laws.{SignerOf}
use Rattle.imprint.specs.Contents.{content_for}

-- a detached file has the content that is given, if one is; another file has its own, unless one is given
pub record OneContent : Type 0 where
  pub detached_file : (given : Option (List ℕ)) → content_for detached given ≡ given
  pub own : (content : Content) (bytes : List ℕ) → content_bytes content ≡ Some bytes → content_for content None ≡ Some bytes
  pub two : (content : Content) (bytes given : List ℕ) → content_bytes content ≡ Some bytes → content_for content (Some given) ≡ None

-- with a digest of at most 64 bytes and an index that one header can say, an imprint input of a file can be digested
abbrev pub NeverLong : Type 0
NeverLong = (f : File) (s : Signer) (digest index : List ℕ) → SignerOf f s → length digest ≤ 64 → length index ≤ 65539 → length (input_of f s digest index) ≤ most
