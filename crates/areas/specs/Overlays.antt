-- Bytes that are put into an area.
use Rattle.std.specs.Prelude.{◌≡◌, ℕ, ◌+◌, ◌<◌, ◌≤◌, List, ◌++◌, length, take, drop}

-- the area with `new` over its bytes from `at` on
abbrev pub overlay : ℕ → List ℕ → List ℕ → List ℕ
overlay at new area = take at area ++ (new ++ drop (at + length new) area)

-- `new` is laid over the area from `at` on, and ends at `end`; where it does not fit, nothing is, and that is `at`
pub record Overlaid (was is : List ℕ) (at : ℕ) (new : List ℕ) (end : ℕ) : Type 0 where
  pub fits : at + length new ≤ length was → (end ≡ at + length new) × (is ≡ overlay at new was)
  pub over : length was < at + length new → (end ≡ at) × (is ≡ was)
