-- The ten headers of a composed stamp.
use Rattle.std.specs.Prelude.{◌≡◌, ℕ, ◌<◌, List, ◌++◌, length}
use Rattle.compose.specs.declared.headers.Inner.{Inner}
use Rattle.compose.specs.declared.headers.Outer.{Outer}
use Rattle.compose.specs.declared.headers.Headers.{Headers}
use Rattle.der.specs.Trees.{leaf, encode}
use Rattle.cms.specs.Identifiers.{signed_data_id}
use Rattle.compose.specs.Headed.{Heads}
use Rattle.compose.specs.Composed.{index_type, set_bytes, carrier_bytes, unsigned_bytes, signer_bytes, signers_bytes, data_bytes, field_bytes, message_bytes, values_bytes, stamp_type, stamp_bytes}

-- those of the signer and inside it
pub record InnerFits (h : Inner) (six index : List ℕ) : Type 0 where
  pub set : Heads h.set 0x31 index
  pub carrier : Heads h.carrier 0x30 (index_type ++ set_bytes index)
  pub unsigned : Heads h.unsigned 0xa1 (carrier_bytes index)
  pub signer : Heads h.signer 0x30 (six ++ unsigned_bytes index)
  pub total : h.total ≡ length (signer_bytes six index)

-- those around it
pub record OuterFits (h : Outer) (identifier front six index : List ℕ) : Type 0 where
  pub signers : Heads h.signers 0x31 (signer_bytes six index)
  pub «data» : Heads h.«data» 0x30 (front ++ signers_bytes six index)
  pub field : Heads h.field 0xa0 (data_bytes front six index)
  pub message : Heads h.message 0x30 (identifier ++ field_bytes front six index)
  pub values : Heads h.values 0x31 (message_bytes identifier front six index)
  pub stamp : Heads h.stamp 0x30 (stamp_type ++ values_bytes identifier front six index)
  pub total : h.total ≡ length (stamp_bytes identifier front six index)

-- of all bytes of these lengths: they fit, or the signer would be too long
abbrev pub InnerHeads : ℕ → ℕ → Inner → Type 0
InnerHeads six index h = (s x : List ℕ) → length s ≡ six → length x ≡ index → InnerFits h s x

abbrev pub InnerLong : ℕ → ℕ → Type 0
InnerLong six index = (s x : List ℕ) → length s ≡ six → length x ≡ index → 65535 < length (signer_bytes s x)

-- of all bytes of these lengths, with a signer of so many bytes: they fit, or the stamp would be too long
abbrev pub OuterHeads : ℕ → ℕ → ℕ → Outer → Type 0
OuterHeads identifier front signer h = (i f s x : List ℕ) → length i ≡ identifier → length f ≡ front → length (signer_bytes s x) ≡ signer → OuterFits h i f s x

abbrev pub OuterLong : ℕ → ℕ → ℕ → Type 0
OuterLong identifier front signer = (i f s x : List ℕ) → length i ≡ identifier → length f ≡ front → length (signer_bytes s x) ≡ signer → 65535 < length (stamp_bytes i f s x)

-- the element of the identifier that every message begins with
abbrev pub identifier_bytes : List ℕ
identifier_bytes = encode (leaf 6 signed_data_id)

-- all of them, of bytes of these lengths: they fit, and the total is told; or the stamp would be too long
pub record HeadsAll (h : Headers) (front six index : List ℕ) : Type 0 where
  pub inner : InnerFits h.inner six index
  pub outer : OuterFits h.outer identifier_bytes front six index

abbrev pub Fitting : ℕ → ℕ → ℕ → Headers → Type 0
Fitting front six index h = (f s x : List ℕ) → length f ≡ front → length s ≡ six → length x ≡ index → HeadsAll h f s x

abbrev pub TooLong : ℕ → ℕ → ℕ → Type 0
TooLong front six index = (f s x : List ℕ) → length f ≡ front → length s ≡ six → length x ≡ index → 65535 < length (stamp_bytes identifier_bytes f s x)
