-- The lines of an outline: one for each element of a tree, in reading order.
use Rattle.std.specs.Prelude.{ℕ, ◌+◌, List, [], ◌∷◌, ◌++◌, length}
use Rattle.der.specs.Trees.{Tree, leaf, node, Forest, none, more, length_bytes, encode, encodes}
use Rattle.listing.specs.declared.line.Line.{Line}

-- the tag and the length bytes of an element with these contents
abbrev pub head_of : ℕ → List ℕ → List ℕ
head_of tag body = tag ∷ length_bytes (length body)

-- the line of an element at this offset and level
abbrev pub line_of : ℕ → ℕ → ℕ → List ℕ → Line
line_of offset level tag body =
    record { offset = offset; level = level; tag = tag; header = length (head_of tag body); contents = length body }

abbrev mutual
  -- the lines of a tree whose tag stands at this offset, on this level
  pub lines_of : ℕ → ℕ → Tree → List Line
  lines_of offset level (leaf tag body) = line_of offset level tag body ∷ []
  lines_of offset level (node tag parts) =
      line_of offset level tag (encodes parts) ∷ lines_in (offset + length (head_of tag (encodes parts))) (level + 1) parts

  -- the lines of trees back to back, the first of which stands at this offset
  pub lines_in : ℕ → ℕ → Forest → List Line
  lines_in offset level none = []
  lines_in offset level (more t ts) = lines_of offset level t ++ lines_in (offset + length (encode t)) level ts
