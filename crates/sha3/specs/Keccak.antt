-- KECCAK-p[1600, 24] as FIPS 202 has it, on natural numbers: a state is the list of its 25 lanes, and the lane A[x, y] stands at 5 y + x. Assumes nothing.
use Rattle.std.specs.Prelude.{ℕ, zero, suc, ◌+◌, ◌-◌, ◌*◌, ◌/◌, ◌%◌, ◌^◌, List, [], ◌∷◌, map, bit_and, bit_or, bit_xor, slice_index, slice_set}
use Rattle.std.specs.List.{range_with_len}

-- 3.1.2: the lane A[x, y]
abbrev pub lane : List ℕ → ℕ → ℕ → ℕ
lane s x y = slice_index s (5 * y + x)

-- the state whose lane A[x, y] is f x y
abbrev pub each : (ℕ → ℕ → ℕ) → List ℕ
each f = map (λ i. f (i % 5) (i / 5)) (range_with_len 0 25)

-- bit z of the lane goes to z + n modulo 64
abbrev pub rotl : ℕ → ℕ → ℕ
rotl n x = bit_or ((x * 2 ^ (n % 64)) % 2 ^ 64) (x / 2 ^ ((64 - n % 64) % 64))

-- every bit of the lane the other way
abbrev pub complement : ℕ → ℕ
complement x = 2 ^ 64 - 1 - x

-- 3.2.1, step 1: the parity of the column x
unfoldable pub C : List ℕ → ℕ → ℕ
C s x = bit_xor (bit_xor (bit_xor (bit_xor (lane s x 0) (lane s x 1)) (lane s x 2)) (lane s x 3)) (lane s x 4)

-- 3.2.1, step 2: the parity of the column before, and that of the column behind turned by one
unfoldable pub D : List ℕ → ℕ → ℕ
D s x = bit_xor (C s ((x + 4) % 5)) (rotl 1 (C s ((x + 1) % 5)))

-- 3.2.1, step 3: each lane takes two parities of its neighbours
unfoldable pub θ : List ℕ → List ℕ
θ s = each (λ x y. bit_xor (lane s x y) (D s x))

-- 3.2.2: by how much ρ turns each lane, modulo 64
abbrev pub offsets : List ℕ
offsets = 0 ∷ 1 ∷ 62 ∷ 28 ∷ 27 ∷ 36 ∷ 44 ∷ 6 ∷ 55 ∷ 20 ∷ 3 ∷ 10 ∷ 43 ∷ 25 ∷ 39 ∷ 41 ∷ 45 ∷ 15 ∷ 21 ∷ 8 ∷ 18 ∷ 2 ∷ 61 ∷ 56 ∷ 14 ∷ []

-- 3.2.2: each lane is turned by its offset
unfoldable pub ρ : List ℕ → List ℕ
ρ s = each (λ x y. rotl (lane offsets x y) (lane s x y))

-- 3.2.3: the lanes change places
unfoldable pub π : List ℕ → List ℕ
π s = each (λ x y. lane s ((x + 3 * y) % 5) x)

-- 3.2.4: each lane takes the next one's complement and the one after it
unfoldable pub χ : List ℕ → List ℕ
χ s = each (λ x y. bit_xor (lane s x y) (bit_and (complement (lane s ((x + 1) % 5) y)) (lane s ((x + 2) % 5) y)))

-- 3.2.5: the round constants
abbrev pub constants : List ℕ
constants = 0x0000000000000001 ∷ 0x0000000000008082 ∷ 0x800000000000808a ∷ 0x8000000080008000 ∷ 0x000000000000808b ∷ 0x0000000080000001 ∷ 0x8000000080008081 ∷ 0x8000000000008009 ∷ 0x000000000000008a ∷ 0x0000000000000088 ∷ 0x0000000080008009 ∷ 0x000000008000000a ∷ 0x000000008000808b ∷ 0x800000000000008b ∷ 0x8000000000008089 ∷ 0x8000000000008003 ∷ 0x8000000000008002 ∷ 0x8000000000000080 ∷ 0x000000000000800a ∷ 0x800000008000000a ∷ 0x8000000080008081 ∷ 0x8000000000008080 ∷ 0x0000000080000001 ∷ 0x8000000080008008 ∷ []

-- 3.2.5: the lane A[0, 0] takes the constant of the round
unfoldable pub ι : ℕ → List ℕ → List ℕ
ι c s = slice_set s 0 (bit_xor (lane s 0 0) c)

-- 3.3: a round, with its constant
unfoldable pub Rnd : ℕ → List ℕ → List ℕ
Rnd c s = ι c (χ (π (ρ (θ s))))

-- the n first rounds
unfoldable pub rounds : ℕ → List ℕ → List ℕ
rounds zero s = s
rounds (suc n) s = Rnd (slice_index constants n) (rounds n s)

-- 3.3: KECCAK-p[1600, 24]
unfoldable pub keccak : List ℕ → List ℕ
keccak s = rounds 24 s
