-- The bytes of segments: the contents of elements back to back, joined.
use Rattle.std.specs.Prelude.{ℕ, zero, suc, ◌-◌, List, [], ◌++◌, Ok, Err, Result}
use Rattle.der.specs.declared.fault.Fault.{Fault}
use Rattle.der.specs.declared.reader.Reader.{Reader}
use Rattle.der.specs.declared.span.Span.{Span}
use Rattle.der.specs.Spans.{part, element_of}

-- what an element leads to; nothing where there is none
abbrev pub if_element : Result Span Fault → (Span → List ℕ) → List ℕ
if_element (Ok s) next = next s
if_element (Err f) next = []

-- the contents of the elements from `at` to `end`, joined, as far as there are elements: of the first `most` of them
abbrev pub joined_first : ℕ → List ℕ → ℕ → ℕ → List ℕ
joined_first zero file at end = []
joined_first (suc most) file at end = if_element (element_of file at end) (λ s. part file s.body s.end ++ joined_first most file s.end end)

-- of all of them: each has a byte at least
abbrev pub joined_in : List ℕ → ℕ → ℕ → List ℕ
joined_in file at end = joined_first (end - at) file at end

-- the same, of the elements that a reader would hand out
abbrev pub joined_of : Reader → List ℕ
joined_of reader = joined_in reader.bytes.now reader.at reader.end
