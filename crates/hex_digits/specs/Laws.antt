-- Reading digits is the inverse of writing them.
use Rattle.std.specs.Prelude.{◌≡◌, ℕ, List, Some}
use Rattle.digest.specs.Bytes.{Bytes}
use Rattle.digest_line.specs.Hex.{hex_of}
use Rattle.hex_digits.specs.Digits.{bytes_of}

-- what is written is read
abbrev pub WrittenIsRead : Type 0
WrittenIsRead = (bytes : List ℕ) → Bytes bytes → bytes_of (hex_of bytes) ≡ Some bytes

-- what is read was written
abbrev pub ReadWasWritten : Type 0
ReadWasWritten = (text bytes : List ℕ) → bytes_of text ≡ Some bytes → hex_of bytes ≡ text
