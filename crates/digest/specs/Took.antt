-- What `take` and `finish` of a digest do, over the relation of its states to lists of bytes.
use Rattle.std.specs.Prelude.{◌≡◌, ℕ, ◌+◌, ◌<◌, ◌≤◌, List, ◌++◌, length, drop, Ok, Err, Result}
use Rattle.digest.specs.declared.refusal.Refusal.{Refusal}
use Rattle.digest.specs.declared.refusal.Refusal.TheVariants.{ShortArea, LongInput}

-- how many bytes a digest takes at most
abbrev pub most : ℕ
most = 16777216

-- one list: the block goes to its end, unless it would then be too long; `is` is the state afterwards
pub record Took {S : Type 0} (stands : S → List ℕ → Type 0) (is : S) (block xs : List ℕ) (r : Result Unit Refusal) : Type 0 where
  pub fits : length xs + length block ≤ most → (r ≡ Ok tt) × stands is (xs ++ block)
  pub over : most < length xs + length block → (r ≡ Err LongInput) × stands is xs

-- the area takes the value at its front, unless it is too short; nothing else of it changes
pub record Wrote (value : List ℕ) (size : ℕ) (was is : List ℕ) (r : Result Unit Refusal) : Type 0 where
  pub fits : size ≤ length was → (r ≡ Ok tt) × (is ≡ value ++ drop size was)
  pub short : length was < size → (r ≡ Err ShortArea) × (is ≡ was)

-- the area takes the digest of the bytes, unless they are too many
pub record Digested (value : List ℕ → List ℕ) (size : ℕ) (bytes was is : List ℕ) (r : Result Unit Refusal) : Type 0 where
  pub fits : length bytes ≤ most → Wrote (value bytes) size was is r
  pub over : most < length bytes → (r ≡ Err LongInput) × (is ≡ was)
