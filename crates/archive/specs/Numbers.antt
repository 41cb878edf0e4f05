-- The number, place and cause of each refusal.
use Rattle.std.specs.Prelude.{ℕ}
use Rattle.der.specs.Causes.{cause_number}
use Rattle.archive.specs.declared.refusal.Refusal.{Refusal}
use Rattle.archive.specs.declared.refusal.Refusal.TheVariants.{Length, Element, Field, Count, Rule, NoSigner}

abbrev pub number_of : Refusal → ℕ
number_of Length = 1
number_of (Element f) = 2
number_of (Field p) = 3
number_of (Count p) = 4
number_of (Rule p) = 5
number_of NoSigner = 6

abbrev pub place_of : Refusal → ℕ
place_of Length = 0
place_of (Element f) = f.place
place_of (Field p) = p
place_of (Count p) = p
place_of (Rule p) = p
place_of NoSigner = 0

abbrev pub cause_of : Refusal → ℕ
cause_of Length = 0
cause_of (Element f) = cause_number f.cause
cause_of (Field p) = 0
cause_of (Count p) = 0
cause_of (Rule p) = 0
cause_of NoSigner = 0
