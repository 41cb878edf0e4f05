-- When an imprint is that of some bytes.
use Rattle.std.specs.Prelude.{◌≡◌, ℕ, ◌<◌, ◌≤◌, Bool, false, List, length, Decides}
use Rattle.digest.specs.Took.{most}

-- the answer is whether the imprint is D of the bytes; no where they are too many for a digest
pub record Agrees (D : List ℕ → List ℕ) (bytes imprint : List ℕ) (r : Bool) : Type 0 where
  pub fits : length bytes ≤ most → Decides r (imprint ≡ D bytes)
  pub over : most < length bytes → r ≡ false
