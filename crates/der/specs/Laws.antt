-- What the definitions give together.
use Rattle.std.specs.Prelude.{◌≡◌, ℕ, ◌⊎◌, List, [], ◌∷◌, ◌++◌, Ok}
use Rattle.der.specs.Bytes.{Bytes}
use Rattle.der.specs.declared.fault.Fault.{Fault}
use Rattle.der.specs.declared.header.Header.{Header}
use Rattle.der.specs.declared.cause.Cause.{Cause}
use Rattle.der.specs.declared.cause.Cause.TheVariants.{Missing, HighTag, Indefinite, HugeLength, LongLength}
use Rattle.der.specs.Head.{header_of}
use Rattle.der.specs.Headers.{Begins}
use Rattle.der.specs.Trees.{Tree, Forest, Valid, Valids, encode, encodes, length_bytes, Forms, Starts}
use Rattle.der.specs.Faults.{InElement, InForest}

-- a header is read exactly where the bytes begin with it: reading and writing are inverse
abbrev pub HeaderExact : Type 0
HeaderExact = (bs : List ℕ) (h : Header) → Bytes bs → (header_of bs ≡ Ok h → Begins bs h) × (Begins bs h → header_of bs ≡ Ok h)

-- bytes are written by one valid forest at most
abbrev pub OneForest : Type 0
OneForest = (ts ts' : Forest) (levels : ℕ) → Valids ts levels → Valids ts' levels → encodes ts ≡ encodes ts' → ts ≡ ts'

-- an element says itself where it ends: bytes begin with one valid tree at most
abbrev pub OneFront : Type 0
OneFront = (t t' : Tree) (levels : ℕ) (rest rest' : List ℕ) → Valid t levels → Valid t' levels → encode t ++ rest ≡ encode t' ++ rest' →
    (t ≡ t') × (rest ≡ rest')

-- bytes have one first fault at most
abbrev pub OneFault : Type 0
OneFault = (levels : ℕ) (bs : List ℕ) (place : ℕ) (f g : Fault) → InForest levels bs place f → InForest levels bs place g → f ≡ g

-- bytes that are a valid forest have no fault
abbrev pub NeverBoth : Type 0
NeverBoth = (levels : ℕ) (bs : List ℕ) (place : ℕ) (f : Fault) → InForest levels bs place f → Forms levels bs → ⊥

-- bytes are a valid forest or have a fault
abbrev pub AlwaysOne : Type 0
AlwaysOne = (levels : ℕ) (bs : List ℕ) (place : ℕ) → Bytes bs → Forms levels bs ⊎ ((f : Fault) × InForest levels bs place f)

-- the same of the element that the bytes begin with: one fault at most, never both, always one
pub record FrontLaws : Type 0 where
  pub one_fault : (levels : ℕ) (bs : List ℕ) (place : ℕ) (f g : Fault) → InElement levels bs place f → InElement levels bs place g → f ≡ g
  pub never_both : (levels : ℕ) (bs : List ℕ) (place n : ℕ) (f : Fault) → InElement levels bs place f → Starts levels bs n → ⊥
  pub always_one : (levels : ℕ) (bs : List ℕ) (place : ℕ) → Bytes bs → ((n : ℕ) × Starts levels bs n) ⊎ ((f : Fault) × InElement levels bs place f)

abbrev at : ℕ → Cause → Fault
at p c = record { place = p; cause = c }

-- three lengths and five faults of an element with 32 levels
abbrev pub Samples : Type 0
Samples =
    (length_bytes 127 ≡ 0x7f ∷ [])
    × (length_bytes 128 ≡ 0x81 ∷ 0x80 ∷ [])
    × (length_bytes 256 ≡ 0x82 ∷ 0x01 ∷ 0x00 ∷ [])
    × InElement 32 (0x30 ∷ 0x81 ∷ 0x7f ∷ []) 0 (at 0 LongLength)
    × InElement 32 (0x30 ∷ 0x80 ∷ []) 0 (at 0 Indefinite)
    × InElement 32 (0x30 ∷ 0x83 ∷ []) 0 (at 0 HugeLength)
    × InElement 32 (0x1f ∷ 0x01 ∷ 0x00 ∷ []) 0 (at 0 HighTag)
    × InElement 32 (0x30 ∷ 0x04 ∷ 0x02 ∷ 0x05 ∷ 0x00 ∷ 0x00 ∷ []) 0 (at 2 Missing)
