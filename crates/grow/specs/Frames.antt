-- Bytes inside elements inside elements.
use Rattle.std.specs.Prelude.{ℕ, ◌+◌, List, [], ◌∷◌, ◌++◌, length}
use Rattle.der.specs.Trees.{OneByteTag, framed, header_bytes}
use Rattle.der.specs.Headers.{header_size_of}

-- an element of which the contents are left out, between the bytes of its siblings
pub record Frame : Type 0 where
  pub before : List ℕ
  pub tag : ℕ
  pub after : List ℕ

-- contents inside one frame
abbrev pub wrap : Frame → List ℕ → List ℕ
wrap f body = f.before ++ (framed f.tag body ++ f.after)

-- contents inside frames, the innermost first
abbrev pub plug : List Frame → List ℕ → List ℕ
plug [] body = body
plug (f ∷ fs) body = plug fs (wrap f body)

-- how many bytes a frame with `n` bytes of contents has, siblings and all
abbrev pub around : Frame → ℕ → ℕ
around f n = length f.before + (header_size_of n + n + length f.after)

-- and how many all frames together
abbrev pub reach : List Frame → ℕ → ℕ
reach [] n = n
reach (f ∷ fs) n = reach fs (around f n)

-- the offset where `n` bytes of contents begin
abbrev pub start : List Frame → ℕ → ℕ
start [] n = 0
start (f ∷ fs) n = start fs (around f n) + length f.before + header_size_of n

-- the offsets of the tags, the innermost first
abbrev pub places : List Frame → ℕ → List ℕ
places [] n = []
places (f ∷ fs) n = (start fs (around f n) + length f.before) ∷ places fs (around f n)

-- every tag is one byte
abbrev pub OneByteTags : List Frame → Type 0
OneByteTags [] = Unit {0}
OneByteTags (f ∷ fs) = OneByteTag f.tag × OneByteTags fs

-- all that stands before `n` bytes of contents
abbrev pub left : List Frame → ℕ → List ℕ
left [] n = []
left (f ∷ fs) n = left fs (around f n) ++ (f.before ++ header_bytes f.tag n)

-- all that stands behind them
abbrev pub right : List Frame → List ℕ
right [] = []
right (f ∷ fs) = f.after ++ right fs

-- contents inside frames whose headers are those of `n` bytes
abbrev pub stale : List Frame → ℕ → List ℕ → List ℕ
stale fs n body = left fs n ++ (body ++ right fs)
