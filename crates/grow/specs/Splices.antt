-- Bytes that are put into a buffer, over others or between them.
use Rattle.std.specs.Prelude.{◌≡◌, ℕ, ◌+◌, ◌-◌, List, ◌++◌, length, take, drop}

-- the file, the first `n` bytes, parts at `at`: what stood from there on stands `size` bytes further right
pub record Parted (was is : List ℕ) (n at size : ℕ) : Type 0 where
  pub front : take at is ≡ take at was
  pub back : drop (at + size) is ≡ drop at (take n was) ++ drop (n + size) was

-- in the file, the first `n` bytes, `new` stands in place of `old` bytes at `at`; what is behind the file stays
pub record Spliced (was is : List ℕ) (n at old : ℕ) (new : List ℕ) : Type 0 where
  pub file : take (n + (length new - old)) is ≡ take at was ++ (new ++ drop (at + old) (take n was))
  pub behind : drop (n + (length new - old)) is ≡ drop (n + (length new - old)) was
