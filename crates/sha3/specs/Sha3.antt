-- SHA3-256 as FIPS 202 has it, on lists of bytes; the lowest bit of a byte is the first. Assumes nothing.
use Rattle.std.specs.Prelude.{ℕ, zero, suc, ◌+◌, ◌-◌, ◌*◌, ◌/◌, ◌%◌, List, [], ◌∷◌, ◌++◌, map, length, take, drop, replicate, bit_xor, slice_index}
use Rattle.std.specs.List.{range_with_len}
use Rattle.sha3.specs.Keccak.{keccak}

-- 3.1.2: the eight bytes from 8 i on, as a lane
unfoldable pub word : List ℕ → ℕ → ℕ
word xs i =
    slice_index xs (8 * i) + slice_index xs (8 * i + 1) * 256 + slice_index xs (8 * i + 2) * 65536 + slice_index xs (8 * i + 3) * 16777216
    + slice_index xs (8 * i + 4) * 4294967296 + slice_index xs (8 * i + 5) * 1099511627776 + slice_index xs (8 * i + 6) * 281474976710656
    + slice_index xs (8 * i + 7) * 72057594037927936

-- the 17 lanes of a block of 136 bytes
abbrev pub words : List ℕ → List ℕ
words block = map (word block) (range_with_len 0 17)

-- a state takes other lanes, bit by bit, into its first ones; the lanes behind them stay
abbrev pub mixed : List ℕ → List ℕ → List ℕ
mixed [] ws = []
mixed (a ∷ s) [] = a ∷ s
mixed (a ∷ s) (w ∷ ws) = bit_xor a w ∷ mixed s ws

-- 4, step 6: a block goes into the state
unfoldable pub absorb : List ℕ → List ℕ → List ℕ
absorb s block = keccak (mixed s (words block))

-- 4, steps 5 and 6: the state after the n first blocks of a list
unfoldable pub chain : ℕ → List ℕ → List ℕ
chain zero xs = replicate 25 0
chain (suc n) xs = absorb (chain n xs) (take 136 (drop (136 * n) xs))

-- 5.1 and 6.1: the bits 01 1 0 .. 0 1 as bytes, k of them after the first
abbrev pub ending : ℕ → List ℕ
ending zero = 0x86 ∷ []
ending (suc k) = 0x06 ∷ replicate k 0 ++ 0x80 ∷ []

-- what fills the last block of a message of n bytes
unfoldable pub tail : ℕ → List ℕ
tail n = ending (135 - n % 136)

-- 5.1: a message with its padding
unfoldable pub padded : List ℕ → List ℕ
padded xs = xs ++ tail (length xs)

-- 3.1.3: the eight bytes of a lane
abbrev pub eight : ℕ → List ℕ
eight n = (n % 256) ∷ (n / 256 % 256) ∷ (n / 65536 % 256) ∷ (n / 16777216 % 256) ∷ (n / 4294967296 % 256) ∷ (n / 1099511627776 % 256) ∷ (n / 281474976710656 % 256) ∷ (n / 72057594037927936 % 256) ∷ []

-- 4, steps 8 and 9: the 32 first bytes of a state
unfoldable pub squeezed : List ℕ → List ℕ
squeezed s = eight (slice_index s 0) ++ (eight (slice_index s 1) ++ (eight (slice_index s 2) ++ eight (slice_index s 3)))

-- 6.1: SHA3-256 of a list of bytes
unfoldable pub sha3 : List ℕ → List ℕ
sha3 xs = squeezed (chain (length (padded xs) / 136) (padded xs))
