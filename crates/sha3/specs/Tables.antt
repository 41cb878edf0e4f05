-- Where the two tables of KECCAK-p[1600, 24] come from: the walk of ρ and the shift register of ι, as FIPS 202 has them. Assumes nothing.
use Rattle.std.specs.Prelude.{◌≡◌, ℕ, zero, suc, ◌+◌, ◌-◌, ◌*◌, ◌/◌, ◌%◌, ◌^◌, List, [], ◌∷◌, map, replicate, slice_index, slice_index_or, slice_set}
use Rattle.std.specs.List.{range_with_len}
use Rattle.sha3.specs.Keccak.{offsets, constants}

-- Algorithm 2, steps 2 and 3b: the place (x, y) of the walk after t steps
unfoldable pub place : ℕ → ℕ × ℕ
place zero = (1, 0)
place (suc t) = ((place t).1, (2 * (place t).0 + 3 * (place t).1) % 5)

-- Algorithm 2, steps 1 and 3a: the offsets that t steps have set, modulo 64
unfoldable pub walked : ℕ → List ℕ
walked zero = replicate 25 0
walked (suc t) = slice_set (walked t) (5 * (place t).1 + (place t).0) ((t + 1) * (t + 2) / 2 % 64)

-- Algorithm 5, step 3: the eight bits of the register, one step on
unfoldable pub shifted : List ℕ → List ℕ
shifted r =
    let b : ℕ → ℕ = λ i. slice_index_or (0 ∷ r) i 0 in
    (b 0 + b 8) % 2 ∷ b 1 ∷ b 2 ∷ b 3 ∷ (b 4 + b 8) % 2 ∷ (b 5 + b 8) % 2 ∷ (b 6 + b 8) % 2 ∷ b 7 ∷ []

-- the register after t steps
unfoldable pub register : ℕ → List ℕ
register zero = 1 ∷ 0 ∷ 0 ∷ 0 ∷ 0 ∷ 0 ∷ 0 ∷ 0 ∷ []
register (suc t) = shifted (register t)

-- Algorithm 5
unfoldable pub rc : ℕ → ℕ
rc t = slice_index (register (t % 255)) 0

-- Algorithm 6, steps 2 and 3: bit 2 ^ j - 1 of the constant of the round i is rc (j + 7 i), for j below n
unfoldable pub bits : ℕ → ℕ → ℕ
bits zero i = 0
bits (suc j) i = bits j i + rc (j + 7 * i) * 2 ^ (2 ^ j - 1)

-- the tables are what the two algorithms give
abbrev pub Tables : Type 0
Tables = (offsets ≡ walked 24) × (constants ≡ map (bits 7) (range_with_len 0 24))
