-- Which bytes are a stamp's token with its index, where the parts lie, and what is at fault with others.
use Rattle.std.specs.Prelude.{◌≡◌, ℕ, List, [], ◌∷◌, Some, None}
use Rattle.der.specs.Spans.{part}
use Rattle.der.specs.Trees.{Tree, none, encode}
use Rattle.model.specs.Parts.{maybe, Attribute, Signer, unsigned_tree}
use Rattle.model.specs.Files.{File, signers_tree}
use Rattle.rules.specs.Offsets.{inside, unsigned_at, signers_at}
use Rattle.message.specs.declared.fault.MessageFault.{MessageFault}
use Rattle.stamp_model.specs.Indexes.{index_tree, IndexShape}
use Rattle.stamp_model.specs.Tokens.{Info}
use Rattle.stamp_model.specs.Stamps.{index_kind, carrying, Stamp}
use Rattle.index.specs.Places.{index_at}
use Rattle.token.specs.declared.parts.TokenParts.{TokenParts}
use Rattle.token.specs.Tokens.{IsToken, LiesAsToken, NoToken}
use Rattle.stamp.specs.declared.parts.StampParts.{StampParts}
use Rattle.stamp.specs.declared.parts.StampFault.{StampFault}
use Rattle.stamp.specs.declared.parts.StampFault.TheVariants.{Token as InToken, Carried as InCarried, Index as InIndex}
use Rattle.stamp.specs.Grammar.{carried}
use Rattle.stamp.specs.Places.{carried_at}
use Rattle.stamp.specs.Indexed.{IsIndex, NoIndex}

-- a token in a file stands on level 9, and its index on level 17: so many of 32 levels are left
abbrev pub token_levels : ℕ
token_levels = 24

abbrev pub index_levels : ℕ
index_levels = 16

-- the bytes are the token of the stamp st, whose signer carries its index
pub record IsStamp (bytes : List ℕ) (st : Stamp) : Type 0 where
  pub token : IsToken token_levels bytes st.token st.signer st.info
  pub unsigned : st.signer.unsigned ≡ Some (carrying st.index ∷ [])
  pub index : IndexShape st.index

-- and the parts lie where the record says
pub record LiesAsStamp (bytes : List ℕ) (parts : StampParts) (st : Stamp) : Type 0 where
  pub token : LiesAsToken bytes parts.token st.token st.signer st.info
  pub index : IsIndex index_levels (part bytes parts.index.start parts.index.end) st.index
  pub entries : parts.entries ≡ index_at 0 (index_tree st.index)

abbrev pub StampAt : List ℕ → StampParts → Type 0
StampAt bytes parts = (st : Stamp) × IsStamp bytes st × LiesAsStamp bytes parts st

-- where the unsigned attributes of a token's one signer begin
abbrev pub carried_place : File → Signer → ℕ
carried_place f s = unsigned_at (inside (signers_at f) (signers_tree f)) s

-- a token whose signer does not carry just one index: the first break is at p
pub record Uncarried (bytes : List ℕ) (p : ℕ) : Type 0 where
  pub file : File
  pub signer : Signer
  pub info : Info
  pub token : IsToken token_levels bytes file signer info
  pub first : carried (carried_place file signer) (maybe unsigned_tree signer.unsigned none) ≡ Some p

-- a token whose signer carries a value, which begins at `at` and is no index
pub record Misindexed (bytes : List ℕ) (at : ℕ) (fault : MessageFault) : Type 0 where
  pub file : File
  pub signer : Signer
  pub info : Info
  pub token : IsToken token_levels bytes file signer info
  pub value : Tree
  pub unsigned : signer.unsigned ≡ Some (record { kind = index_kind; values = value ∷ [] } ∷ [])
  pub begins : at ≡ (carried_at (carried_place file signer) (maybe unsigned_tree signer.unsigned none)).start
  pub none_there : NoIndex index_levels (encode value) fault

-- why bytes are no stamp
abbrev pub NoStamp : List ℕ → StampFault → Type 0
NoStamp bytes (InToken fault) = NoToken token_levels bytes fault
NoStamp bytes (InCarried p) = Uncarried bytes p
NoStamp bytes (InIndex at fault) = Misindexed bytes at fault

-- a token without unsigned attributes, and where its parts lie
abbrev pub BareAt : List ℕ → TokenParts → Type 0
BareAt bytes parts = (f : File) × (s : Signer) × (i : Info) × IsToken token_levels bytes f s i × LiesAsToken bytes parts f s i × (s.unsigned ≡ None)

-- a token whose signer has unsigned attributes, which begin at p
pub record Burdened (bytes : List ℕ) (p : ℕ) : Type 0 where
  pub file : File
  pub signer : Signer
  pub info : Info
  pub token : IsToken token_levels bytes file signer info
  pub attributes : List Attribute
  pub unsigned : signer.unsigned ≡ Some attributes
  pub begins : p ≡ carried_place file signer

-- why bytes are no such token
abbrev pub NotBare : List ℕ → StampFault → Type 0
NotBare bytes (InToken fault) = NoToken token_levels bytes fault
NotBare bytes (InCarried p) = Burdened bytes p
NotBare bytes (InIndex at fault) = ⊥
