-- The number of each cause.
use Rattle.std.specs.Prelude.{ℕ}
use Rattle.der.specs.declared.cause.Cause.{Cause}
use Rattle.der.specs.declared.cause.Cause.TheVariants.{Missing, HighTag, Indefinite, HugeLength, LongLength, TooDeep}

abbrev pub cause_number : Cause → ℕ
cause_number Missing = 1
cause_number HighTag = 2
cause_number Indefinite = 3
cause_number HugeLength = 4
cause_number LongLength = 5
cause_number TooDeep = 6
