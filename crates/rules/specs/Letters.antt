-- The letter by which each form is told.
use Rattle.std.specs.Prelude.{ℕ}
use Rattle.rules.specs.declared.kinds.Form.{Form}
use Rattle.rules.specs.declared.kinds.Form.TheVariants.{B, T, C, X, A}

abbrev pub letter_of : Form → ℕ
letter_of B = 66
letter_of T = 84
letter_of C = 67
letter_of X = 88
letter_of A = 65
