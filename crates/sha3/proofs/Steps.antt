-- One step of each definition that counts up. Assumes nothing.
use Rattle.std.proofs.Common.{◌≡◌, ℕ, ◌+◌, ◌*◌, List, get_or, take, drop, refl, add-one}
use Rattle.sha3.specs.Keccak.{Rnd, constants, rounds}
use Rattle.sha3.specs.Sha3.{absorb, chain}

pub rounds_more : (n : ℕ) (s : List ℕ) → rounds (n + 1) s ≡ Rnd (get_or constants n 0) (rounds n s)
unfolding rounds
rounds_more n s = rw (add-one n) refl

pub chain_more : (n : ℕ) (xs : List ℕ) → chain (n + 1) xs ≡ absorb (chain n xs) (take 136 (drop (136 * n) xs))
unfolding chain
chain_more n xs = rw (add-one n) refl
