-- Where elements lie that stand back to back, told by their trees.
use Rattle.std.specs.Prelude.{ℕ, zero, suc, ◌+◌, cond, List, [], ◌∷◌, length, Some, None, Option}
use Rattle.der.specs.declared.header.Header.{Header}
use Rattle.der.specs.declared.span.Span.{Span}
use Rattle.der.specs.Spans.{span_at}
use Rattle.der.specs.Trees.{Tree, leaf, Forest, none, more, tag_of}
use Rattle.fields.specs.declared.located.Entries.{Entries}
use Rattle.fields.specs.Reads.{is}
use Rattle.fields.specs.Rules.{parts_of, head_size, body_size}

-- what the header of an element says
abbrev pub header_for : Tree → Header
header_for t = record { tag = tag_of t; head = head_size t; size = body_size t }

-- where the element lies that begins at `at`
abbrev pub located : ℕ → Tree → Span
located at t = span_at at (header_for t)

-- an element, and where it begins
pub record Placed : Type 0 where
  pub at : ℕ
  pub tree : Tree

-- where it lies
abbrev pub span_of : Placed → Span
span_of x = located x.at x.tree

-- elements back to back from an offset on
abbrev pub placed_from : ℕ → Forest → List Placed
placed_from p none = []
placed_from p (more t ts) = record { at = p; tree = t } ∷ placed_from (p + head_size t + body_size t) ts

-- the elements inside an element
abbrev pub inside_of : Placed → List Placed
inside_of x = placed_from (x.at + head_size x.tree) (parts_of x.tree)

-- one of them by its number; where a message is read, it is there
abbrev pub nth : ℕ → List Placed → Placed
nth n [] = record { at = 0; tree = leaf 0 [] }
nth zero (x ∷ xs) = x
nth (suc n) (x ∷ xs) = nth n xs

-- the first of them, if it has the tag
abbrev pub if_first : ℕ → List Placed → Option Placed
if_first tag [] = None
if_first tag (x ∷ xs) = cond (is tag (tag_of x.tree)) (Some x) None

-- those behind it, or all if it is not there
abbrev pub past : ℕ → List Placed → List Placed
past tag [] = []
past tag (x ∷ xs) = cond (is tag (tag_of x.tree)) xs (x ∷ xs)

-- what is made of it, if it is there
abbrev pub mapped : {X Y : Type 0} → (X → Y) → Option X → Option Y
mapped f None = None
mapped f (Some x) = Some (f x)

-- a field that holds a list
abbrev pub entries_for : Placed → Entries
entries_for x = record { field = span_of x; count = length (inside_of x) }
