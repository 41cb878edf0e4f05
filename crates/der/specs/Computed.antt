-- The first fault, computed: `fuel` bounds the number of elements on a way, and the length of the bytes is enough.
use Rattle.std.specs.Prelude.{ℕ, zero, suc, ◌+◌, ◌-◌, cond, List, [], ◌∷◌, drop, Some, None, Ok, Err, Option, Result, ◌==◌, bit_and}
use Rattle.der.specs.declared.header.Header.{Header}
use Rattle.der.specs.declared.fault.Fault.{Fault}
use Rattle.der.specs.declared.cause.Cause.{Cause}
use Rattle.der.specs.declared.cause.Cause.TheVariants.{TooDeep}
use Rattle.der.specs.Head.{header_of}
use Rattle.der.specs.Faults.{contents}

abbrev pub or_else : Option Fault → Option Fault → Option Fault
or_else (Some f) later = Some f
or_else None later = later

-- a cause of the header is the fault; else what the header leads to
abbrev pub by_header : Result Header Cause → ℕ → (Header → Option Fault) → Option Fault
by_header (Err c) place onward = Some (record { place = place; cause = c })
by_header (Ok h) place onward = onward h

-- of the elements that the bytes are made of
abbrev pub fault_in : ℕ → ℕ → List ℕ → ℕ → Option Fault
fault_in zero levels bs place = None
fault_in (suc fuel) levels [] place = None
fault_in (suc fuel) levels (b ∷ bs) place =
    cond (levels == 0) (Some (record { place = place; cause = TooDeep }))
    (by_header (header_of (b ∷ bs)) place
    (λ h. or_else
    (cond (bit_and h.tag 32 == 0) None (fault_in fuel (levels - 1) (contents h (b ∷ bs)) (place + h.head)))
    (fault_in fuel levels (drop (h.head + h.size) (b ∷ bs)) (place + (h.head + h.size)))))

-- of the element that the bytes begin with
abbrev pub fault_at : ℕ → List ℕ → ℕ → Option Fault
fault_at levels bs place =
    cond (levels == 0) (Some (record { place = place; cause = TooDeep }))
    (by_header (header_of bs) place
    (λ h. cond (bit_and h.tag 32 == 0) None (fault_in h.size (levels - 1) (contents h bs) (place + h.head))))

-- how many bytes a header says that its element takes up
abbrev pub size_by : Result Header Cause → ℕ
size_by (Ok h) = h.head + h.size
size_by (Err c) = 0

-- how many bytes the element takes up that the bytes begin with
abbrev pub size_at : List ℕ → ℕ
size_at bs = size_by (header_of bs)

-- no fault serves with a value
abbrev pub verdict : {X : Type 0} → X → Option Fault → Result X Fault
verdict x None = Ok x
verdict x (Some f) = Err f
