-- Lanes that are kept with every bit the other way, so that χ takes few complements. Assumes nothing.
use Rattle.std.specs.Prelude.{ℕ, ◌+◌, ◌*◌, ◌%◌, List, [], ◌∷◌, map, take, drop, bit_and, bit_xor, slice_index}
use Rattle.std.specs.List.{range_with_len}
use Rattle.sha3.specs.Keccak.{complement}
use Rattle.sha3.specs.Sha3.{mixed}

-- 64 bits, all set: a lane that takes it has every bit the other way
abbrev pub ones : ℕ
ones = 0xffffffffffffffff

-- between two rounds the lanes 1, 2, 8, 12, 17 and 20 are kept so
abbrev pub kept : List ℕ
kept = 0 ∷ ones ∷ ones ∷ 0 ∷ 0 ∷ 0 ∷ 0 ∷ 0 ∷ ones ∷ 0 ∷ 0 ∷ 0 ∷ ones ∷ 0 ∷ 0 ∷ 0 ∷ 0 ∷ ones ∷ 0 ∷ 0 ∷ ones ∷ 0 ∷ 0 ∷ 0 ∷ 0 ∷ []

-- which lanes θ, ρ and π make so of these
abbrev pub before : List ℕ
before = ones ∷ 0 ∷ ones ∷ ones ∷ 0 ∷ ones ∷ 0 ∷ ones ∷ 0 ∷ 0 ∷ ones ∷ 0 ∷ ones ∷ 0 ∷ 0 ∷ 0 ∷ ones ∷ 0 ∷ ones ∷ ones ∷ ones ∷ 0 ∷ 0 ∷ ones ∷ 0 ∷ []

-- the state that lanes so kept stand for
abbrev pub righted : List ℕ → List ℕ
righted s = mixed s kept

-- the plane y of a list of 25
abbrev pub in_plane : ℕ → List ℕ → List ℕ
in_plane y s = take 5 (drop (5 * y) s)

-- χ of one plane
abbrev pub twisted : List ℕ → List ℕ
twisted p = map (λ x. bit_xor (slice_index p x) (bit_and (complement (slice_index p ((x + 1) % 5))) (slice_index p ((x + 2) % 5)))) (range_with_len 0 5)
