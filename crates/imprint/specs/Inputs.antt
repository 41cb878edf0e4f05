-- Imprint inputs as pieces of bytes.
use Rattle.std.specs.Prelude.{◌≡◌, ℕ, ◌<◌, ◌≤◌, List, ◌++◌, length, drop, Result, MatchResult}
use Rattle.der.specs.Spans.{part}
use Rattle.cms.specs.declared.located.Message.{Message}
use Rattle.cms.specs.declared.located.Signer.{Signer as Located}
use Rattle.imprint.specs.declared.pieces.Input.{Input}
use Rattle.imprint.specs.declared.pieces.Short.{Short}

-- the bytes of the four pieces, one after another
abbrev pub bytes_of : Input → List ℕ
bytes_of input = input.content_type.now ++ (input.content_digest.now ++ (input.fields.now ++ input.index.now))

-- the pieces lie in the file where the records say: the content type element, and from the first of the signer's fields to the end of the sixth
pub record Found (file : List ℕ) (m : Message) (x : Located) (digest index : List ℕ) (input : Input) : Type 0 where
  pub content_type : input.content_type.now ≡ part file m.info.kind.start m.info.kind.end
  pub content : input.content_digest.now ≡ digest
  pub fields : input.fields.now ≡ part file x.whole.body x.signature.end
  pub carried : input.index.now ≡ index

-- the bytes stand at the front of the area, and nothing else of it changed
pub record AtFront (bytes was is : List ℕ) (count : ℕ) : Type 0 where
  pub answer : count ≡ length bytes
  pub room : length bytes ≤ length was
  pub area : is ≡ bytes ++ drop (length bytes) was

-- the area is shorter than the bytes, and stays as it was
pub record TooShort (bytes was is : List ℕ) : Type 0 where
  pub short : length was < length bytes
  pub stays : is ≡ was

-- the bytes are written, or refused for want of room
abbrev pub Written : List ℕ → List ℕ → List ℕ → Result ℕ Short → Type 0
Written bytes was is r = MatchResult r (AtFront bytes was is) (λ _. TooShort bytes was is)
