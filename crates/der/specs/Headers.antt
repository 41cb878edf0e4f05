-- What a header can say, and when bytes begin with it.
use Rattle.std.specs.Prelude.{◌≡◌, ℕ, ◌≤◌, List, ◌++◌, length}
use Rattle.der.specs.declared.header.Header.{Header}
use Rattle.der.specs.Trees.{OneByteTag, header_bytes}

-- how many bytes a header has whose contents have `size` bytes; its tag has one
abbrev pub header_size_of : ℕ → ℕ
header_size_of size = length (header_bytes 0 size)

-- a header can say it: the tag has one byte, and the contents at most 65535
pub record Sayable (tag size : ℕ) : Type 0 where
  pub low : OneByteTag tag
  pub short : size ≤ 65535

-- the bytes begin with the shortest header of its tag and length, and hold the contents
pub record Begins (bs : List ℕ) (h : Header) : Type 0 where
  pub sayable : Sayable h.tag h.size
  pub head : h.head ≡ header_size_of h.size
  pub rest : List ℕ
  pub bytes : bs ≡ header_bytes h.tag h.size ++ rest
  pub room : h.size ≤ length rest
