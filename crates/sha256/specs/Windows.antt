-- The sixteen words of the schedule from one place on, and the rounds up to there.
use Rattle.std.specs.Prelude.{◌≡◌, ℕ, ◌+◌, ◌<◌, List, slice_index}
use Rattle.sha256.specs.declared.step.Step.{Step}
use Rattle.sha256.specs.declared.words.Words.{Words}
use Rattle.sha256.specs.Sha.{W, rounds}

-- the word of the schedule at t
unfoldable pub word_at : List ℕ → ℕ → ℕ
word_at block t = slice_index (W block (t + 1)) t

-- the window has the sixteen words from n on
abbrev pub Slid : List ℕ → ℕ → List ℕ → Type 0
Slid block n window = (k : ℕ) → k < 16 → slice_index window k ≡ word_at block (n + k)

-- n rounds are done from s on the block, and the window stands at n
pub record Reached (s : Words) (block : List ℕ) (n : ℕ) (step : Step) : Type 0 where
  pub worked : step.words ≡ rounds n s (W block 64)
  pub slid : Slid block n step.window
