-- Archive stamps: an attribute that holds a token, which carries an index.
use Rattle.std.specs.Prelude.{◌≡◌, ℕ, Bool, List, [], ◌∷◌, Some}
use Rattle.model.specs.Parts.{Attribute, Signer}
use Rattle.model.specs.Files.{File, file_tree}
use Rattle.rules.specs.Attributes.{is_kind}
use Rattle.rules.specs.declared.kinds.AttributeKind.TheVariants.{ArchiveStamp}
use Rattle.stamp_model.specs.Indexes.{Index, index_tree, IndexShape, meant_told_by}
use Rattle.stamp_model.specs.Tokens.{Info, Token}

-- the type of the attribute that carries an index, 0.4.0.1733.2.5
abbrev pub index_kind : List ℕ
index_kind = 0x04 ∷ 0x00 ∷ 0x8d ∷ 0x45 ∷ 0x02 ∷ 0x05 ∷ []

-- the attribute that carries an index
abbrev pub carrying : Index → Attribute
carrying x = record { kind = index_kind; values = index_tree x ∷ [] }

-- a stamp, read: its token with its one signer and what it tells, and the index that the signer carries
pub record Stamp : Type 0 where
  pub token : File
  pub signer : Signer
  pub info : Info
  pub index : Index

-- the value of a stamp attribute is this stamp
pub record Carries (a : Attribute) (st : Stamp) : Type 0 where
  pub token : Token st.token st.signer st.info
  pub value : a.values ≡ file_tree st.token ∷ []
  pub unsigned : st.signer.unsigned ≡ Some (carrying st.index ∷ [])
  pub index : IndexShape st.index

-- token and index name the digest
pub record Names (name : List ℕ) (st : Stamp) : Type 0 where
  pub token : st.info.algorithm.name ≡ name
  pub index : meant_told_by st.index.algorithm ≡ name

-- stamps are told by their type alone, and numbered in file order
abbrev pub is_stamp : Attribute → Bool
is_stamp a = is_kind ArchiveStamp a
