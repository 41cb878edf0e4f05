-- What bytes stand for: trees of elements, and how a tree is written.
use Rattle.std.specs.Prelude.{◌≡◌, ℕ, ◌-◌, ◌/◌, ◌%◌, ◌<◌, ◌≤◌, Bool, true, false, cond, List, [], ◌∷◌, ◌++◌, length, take, ◌==◌, bit_and, nat_lt}

mutual
  -- an element: bytes under a tag, or elements under a tag
  pub data Tree : Type 0 where
    leaf : ℕ → List ℕ → Tree
    node : ℕ → Forest → Tree

  -- elements back to back
  pub data Forest : Type 0 where
    none : Forest
    more : Tree → Forest → Forest

-- the shortest form of a length up to 65535
abbrev pub length_bytes : ℕ → List ℕ
length_bytes n = cond (nat_lt n 128) (n ∷ []) (cond (nat_lt n 256) (129 ∷ n ∷ []) (130 ∷ n / 256 ∷ n % 256 ∷ []))

-- the header of an element with so many bytes of contents
abbrev pub header_bytes : ℕ → ℕ → List ℕ
header_bytes tag size = tag ∷ length_bytes size

-- an element as bytes
abbrev pub framed : ℕ → List ℕ → List ℕ
framed tag body = tag ∷ (length_bytes (length body) ++ body)

abbrev mutual
  pub encode : Tree → List ℕ
  encode (leaf tag body) = framed tag body
  encode (node tag parts) = framed tag (encodes parts)

  pub encodes : Forest → List ℕ
  encodes none = []
  encodes (more t ts) = encode t ++ encodes ts

abbrev pub tag_of : Tree → ℕ
tag_of (leaf tag body) = tag
tag_of (node tag parts) = tag

-- the contents of an element as bytes
abbrev pub body_of : Tree → List ℕ
body_of (leaf tag body) = body
body_of (node tag parts) = encodes parts

-- a tag of one byte
abbrev pub OneByteTag : ℕ → Type 0
OneByteTag tag = bit_and tag 31 ≡ 31 → ⊥

-- what a header can say: a tag of one byte, and at most 65535 bytes of contents
pub record Sound (tag : ℕ) (body : List ℕ) : Type 0 where
  pub low : OneByteTag tag
  pub short : length body ≤ 65535

-- the tag's bit 20 is set
abbrev pub constructed : ℕ → Bool
constructed tag = cond (bit_and tag 32 == 0) false true

abbrev pub Constructed : ℕ → Type 0
Constructed tag = bit_and tag 32 ≡ 0 → ⊥

abbrev mutual
  -- each header can be written, each tag says whether elements are inside, and there are at most `levels` levels
  pub Valid : Tree → ℕ → Type 0
  Valid (leaf tag body) levels = (0 < levels) × Sound tag body × (bit_and tag 32 ≡ 0)
  Valid (node tag parts) levels = (0 < levels) × Sound tag (encodes parts) × Constructed tag × Valids parts (levels - 1)

  pub Valids : Forest → ℕ → Type 0
  Valids none levels = Unit {0}
  Valids (more t ts) levels = Valid t levels × Valids ts levels

-- the bytes are elements back to back
abbrev pub Forms : ℕ → List ℕ → Type 0
Forms levels bs = (ts : Forest) × Valids ts levels × (encodes ts ≡ bs)

-- the bytes are one element
abbrev pub IsElement : ℕ → List ℕ → Type 0
IsElement levels bs = (t : Tree) × Valid t levels × (encode t ≡ bs)

-- the first n bytes are one element
abbrev pub Starts : ℕ → List ℕ → ℕ → Type 0
Starts levels bs n = (t : Tree) × Valid t levels × (encode t ≡ take n bs) × (n ≤ length bs) × (0 < n)
