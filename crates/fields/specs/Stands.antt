-- Trees that stand in a file.
use Rattle.std.specs.Prelude.{◌≡◌, ℕ, ◌≤◌, List, length}
use Rattle.der.specs.Spans.{part}
use Rattle.der.specs.Trees.{Forest, Valids, encodes}

-- the trees ts stand from `at` to `end`
pub record At (levels : ℕ) (file : List ℕ) (at end : ℕ) (ts : Forest) : Type 0 where
  pub valid : Valids ts levels
  pub bytes : part file at end ≡ encodes ts
  pub order : at ≤ end
  pub inside : end ≤ length file
