-- What the definitions give together.
use Rattle.std.specs.Prelude.{◌≡◌, ℕ, List, [], ◌∷◌, length, Some}
use Rattle.std.specs.List.{ContainsAt as Has, slice_get}
use Rattle.der.specs.Trees.{leaf, node, Valid, encode}
use Rattle.model.specs.Parts.{Attribute, Signer, version_tree, identifier_tree, algorithm_tree, signed_tree}
use Rattle.model.specs.Files.{File, content_type_tree, file_tree}
use Rattle.stamp_model.specs.Indexes.{Index, index_tree, index_bytes, index_of}
use Rattle.stamp_model.specs.Stamps.{Stamp, Carries}
use Rattle.stamp_model.specs.Covering.{Covers, input_of, stamp_input}
use Rattle.stamp_model.specs.Later.{Included, LaterSigner, AsLate, Grown}

-- bytes are those of one index at most
abbrev pub OneIndex : Type 0
OneIndex = (x x' : Index) (levels : ℕ) → Valid (index_tree x) levels → Valid (index_tree x') levels → index_bytes x ≡ index_bytes x' → x ≡ x'

-- an attribute is one stamp at most
abbrev pub OneStamp : Type 0
OneStamp = (a : Attribute) (st st' : Stamp) → Carries a st → Carries a st' → st ≡ st'

-- a signer of a file that is well formed
pub record SignerOf (f : File) (s : Signer) : Type 0 where
  pub valid : Valid (file_tree f) 32
  pub has : Has f.signers s

-- the six fields of two signers, byte for byte
pub record SameFields (s s' : Signer) : Type 0 where
  pub version : encode (version_tree s.identifier) ≡ encode (version_tree s'.identifier)
  pub identifier : encode (identifier_tree s.identifier) ≡ encode (identifier_tree s'.identifier)
  pub digest : encode (algorithm_tree s.digest) ≡ encode (algorithm_tree s'.digest)
  pub signed : encode (signed_tree s.signed) ≡ encode (signed_tree s'.signed)
  pub algorithm : encode (node 0x30 s.algorithm) ≡ encode (node 0x30 s'.algorithm)
  pub signature : encode (leaf 4 s.signature) ≡ encode (leaf 4 s'.signature)

-- the parts of two imprint inputs are equal, byte for byte
pub record SameParts (f f' : File) (s s' : Signer) (digest digest' x x' : List ℕ) : Type 0 where
  pub content_type : encode (content_type_tree f) ≡ encode (content_type_tree f')
  pub content : digest ≡ digest'
  pub fields : SameFields s s'
  pub index : x ≡ x'

-- two imprint inputs with content digests of one length are equal exactly when their parts are
abbrev pub PartsTell : Type 0
PartsTell = (f f' : File) (s s' : Signer) (digest digest' index index' : List ℕ) → SignerOf f s → SignerOf f' s' → length digest ≡ length digest' →
    (input_of f s digest index ≡ input_of f' s' digest' index' → SameParts f f' s s' digest digest' index index')
    × (SameParts f f' s s' digest digest' index index' → input_of f s digest index ≡ input_of f' s' digest' index')

-- a copy is as late as itself, and the relation carries through; a file that grew is as late
pub record LateLaws : Type 0 where
  pub same : (f : File) → AsLate f f
  pub through : (f g h : File) → AsLate f g → AsLate g h → AsLate f h
  pub grown_same : (f : File) → Grown f f
  pub grown_through : (f g h : File) → Grown f g → Grown g h → Grown f h
  pub grown_late : (f g : File) → Grown f g → AsLate f g

-- in a copy as late, a signer has its place
abbrev pub SignerStays : Type 0
SignerStays = (f f' : File) (k : ℕ) (s : Signer) → AsLate f f' → slice_get f.signers k ≡ Some s →
    (s' : Signer) × (slice_get f'.signers k ≡ Some s') × LaterSigner Included s s'

-- and a stamp keeps its imprint input, and covers if it covered
pub record StampStays : Type 0 where
  pub input : (D : List ℕ → List ℕ) (content : List ℕ) (f f' : File) (s s' : Signer) (st : Stamp) → AsLate f f' → LaterSigner Included s s' →
      stamp_input D content f' s' st ≡ stamp_input D content f s st
  pub covers : (D : List ℕ → List ℕ) (content : List ℕ) (f f' : File) (s s' : Signer) (st : Stamp) → AsLate f f' → LaterSigner Included s s' →
      Covers D content f s st → Covers D content f' s' st

-- the name of SHA3-256
abbrev sha3_name : List ℕ
sha3_name = 0x60 ∷ 0x86 ∷ 0x48 ∷ 0x01 ∷ 0x65 ∷ 0x03 ∷ 0x04 ∷ 0x02 ∷ 0x08 ∷ []

-- the index of no elements, for SHA3-256
abbrev pub EmptyIndex : Type 0
EmptyIndex = (D : List ℕ → List ℕ) →
    index_bytes (index_of D sha3_name (λ list. []))
    ≡ 0x30 ∷ 0x13 ∷ 0x30 ∷ 0x0b ∷ 0x06 ∷ 0x09 ∷ 0x60 ∷ 0x86 ∷ 0x48 ∷ 0x01 ∷ 0x65 ∷ 0x03 ∷ 0x04 ∷ 0x02 ∷ 0x08 ∷ 0x30 ∷ 0x00 ∷ 0x30 ∷ 0x00 ∷ 0x30 ∷ 0x00 ∷ []
