-- The number, place and cause of each refusal.
use Rattle.std.specs.Prelude.{ℕ}
use Rattle.der.specs.Causes.{cause_number}
use Rattle.archive.specs.Numbers.{number_of as number_in, place_of as place_in, cause_of as cause_in}
use Rattle.opening.specs.declared.refusal.Refusal.{Refusal}
use Rattle.opening.specs.declared.refusal.Refusal.TheVariants.{Unread, NoList, AddedElement, AddedField, Barred, Content, NoStamp, Malformed, OtherDigest, OtherImprint, NoElement, Equal, Room}

abbrev pub number_of : Refusal → ℕ
number_of (Unread r) = number_in r
number_of NoList = 7
number_of (AddedElement f) = 7
number_of (AddedField p) = 7
number_of Barred = 7
number_of Content = 8
number_of NoStamp = 9
number_of Malformed = 10
number_of OtherDigest = 11
number_of OtherImprint = 12
number_of NoElement = 13
number_of Equal = 14
number_of Room = 15

-- where nothing else is said, the place is 0
abbrev pub place_of : Refusal → ℕ
place_of (Unread r) = place_in r
place_of NoList = 0
place_of (AddedElement f) = f.place
place_of (AddedField p) = p
place_of Barred = 0
place_of Content = 0
place_of NoStamp = 0
place_of Malformed = 0
place_of OtherDigest = 0
place_of OtherImprint = 0
place_of NoElement = 0
place_of Equal = 0
place_of Room = 0

-- and so is the cause
abbrev pub cause_of : Refusal → ℕ
cause_of (Unread r) = cause_in r
cause_of NoList = 0
cause_of (AddedElement f) = cause_number f.cause
cause_of (AddedField p) = 0
cause_of Barred = 0
cause_of Content = 0
cause_of NoStamp = 0
cause_of Malformed = 0
cause_of OtherDigest = 0
cause_of OtherImprint = 0
cause_of NoElement = 0
cause_of Equal = 0
cause_of Room = 0
