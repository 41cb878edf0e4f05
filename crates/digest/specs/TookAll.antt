-- What giving bytes to a digest piece by piece does, over the relation of its states to lists of bytes.
use Rattle.std.specs.Prelude.{◌≡◌, ℕ, ◌+◌, ◌<◌, ◌≤◌, List, ◌++◌, length, take, Ok, Err, Result}
use Rattle.digest.specs.declared.refusal.Refusal.{Refusal}
use Rattle.digest.specs.declared.refusal.Refusal.TheVariants.{LongInput}
use Rattle.digest.specs.Took.{most}

-- one list: the bytes go to its end, unless it would then be too long; then a front of them goes there
pub record TookAll {S : Type 0} (stands : S → List ℕ → Type 0) (is : S) (bytes xs : List ℕ) (r : Result Unit Refusal) : Type 0 where
  pub fits : length xs + length bytes ≤ most → (r ≡ Ok tt) × stands is (xs ++ bytes)
  pub over : most < length xs + length bytes → (r ≡ Err LongInput) × ((n : ℕ) × stands is (xs ++ take n bytes))
