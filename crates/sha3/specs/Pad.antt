-- The padding of SHA3-256, bit by bit as FIPS 202 has it. Assumes nothing.
use Rattle.std.specs.Prelude.{◌≡◌, ℕ, ◌+◌, ◌-◌, ◌*◌, ◌/◌, ◌%◌, List, [], ◌∷◌, ◌++◌, length, replicate}
use Rattle.std.specs.List.{flat_map}
use Rattle.sha3.specs.Sha3.{tail}

-- B.1: the bits of a byte, lowest first
abbrev pub bits_of : ℕ → List ℕ
bits_of b = b % 2 ∷ b / 2 % 2 ∷ b / 4 % 2 ∷ b / 8 % 2 ∷ b / 16 % 2 ∷ b / 32 % 2 ∷ b / 64 % 2 ∷ b / 128 % 2 ∷ []

-- 5.1: pad10*1 at the rate x, after m bits
abbrev pub pad : ℕ → ℕ → List ℕ
pad x m = 1 ∷ replicate ((x - (m + 2) % x) % x) 0 ++ 1 ∷ []

-- 6.1: after n bytes come the bits 01, and the padding at the rate 1088
abbrev pub Bitwise : Type 0
Bitwise = (n : ℕ) → flat_map bits_of (tail n) ≡ 0 ∷ 1 ∷ pad 1088 (8 * n + 2)

-- a padded message is made of whole blocks
abbrev pub Whole : Type 0
Whole = (n : ℕ) → (n + length (tail n)) % 136 ≡ 0
