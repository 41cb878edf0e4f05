-- The tags of a message that say that elements are inside.
use Rattle.std.proofs.Common.{◌≡◌, ℕ, arith}
use Rattle.der.specs.Trees.{Constructed}

-- a sequence, 30
pub seq : Constructed 0x30
seq z = let y : ◌≡◌ {A = ℕ} 32 0 = z in omega arith

-- a set, 31
pub set : Constructed 0x31
set z = let y : ◌≡◌ {A = ℕ} 32 0 = z in omega arith

-- a field, a0
pub field_zero : Constructed 0xa0
field_zero z = let y : ◌≡◌ {A = ℕ} 32 0 = z in omega arith

-- a field, a1
pub field_one : Constructed 0xa1
field_one z = let y : ◌≡◌ {A = ℕ} 32 0 = z in omega arith

-- segments, 24
pub segments : Constructed 0x24
segments z = let y : ◌≡◌ {A = ℕ} 32 0 = z in omega arith
