-- The number of each refusal.
use Rattle.std.specs.Prelude.{ℕ}
use Rattle.digest.specs.declared.refusal.Refusal.{Refusal}
use Rattle.digest.specs.declared.refusal.Refusal.TheVariants.{LongSource, ShortArea, LongInput}

-- the number by which a refusal is told
abbrev pub number_of : Refusal → ℕ
number_of LongSource = 8
number_of ShortArea = 15
number_of LongInput = 16
