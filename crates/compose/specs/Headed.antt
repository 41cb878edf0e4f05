-- Headers that are written before the contents are there.
use Rattle.std.specs.Prelude.{◌≡◌, ℕ, List, ◌++◌, take}
use Rattle.der.specs.Trees.{framed}
use Rattle.der.specs.declared.written.HeaderBytes.{HeaderBytes}

-- the bytes of a header
abbrev pub bytes_of : HeaderBytes → List ℕ
bytes_of h = take h.count h.bytes

-- the header, before the contents, makes the element of this tag
abbrev pub Heads : HeaderBytes → ℕ → List ℕ → Type 0
Heads h tag body = bytes_of h ++ body ≡ framed tag body
