-- What elements of a list hand out in turn.
use Rattle.std.specs.Prelude.{◌≡◌, ℕ, ◌+◌, List, ◌∷◌, Option, MatchOption, length}
use Rattle.der.specs.Spans.{part}
use Rattle.der.specs.Trees.{Tree, Valid, encode, body_of}
use Rattle.der.specs.declared.element.Element.{Element}
use Rattle.index.specs.declared.elements.Elements.{Elements}
use Rattle.index.specs.Standing.{Stand}

-- the element is the tree t, at the place where those that were left began, and those that are left now are the trees ts
pub record FirstOf (was : Elements) (t : Tree) (ts : List Tree) (e : Element) (is : Elements) : Type 0 where
  pub whole : part e.bytes.now e.span.start e.span.end ≡ encode t
  pub inside : part e.bytes.now e.span.body e.span.end ≡ body_of t
  pub start : e.span.start ≡ was.reader.at
  pub after : is.reader.at ≡ was.reader.at + length (encode t)
  pub valid : (levels : ℕ) × Valid t levels
  pub others : Stand is ts

-- one is handed out if one is left, and then one fewer is; nothing else changes
pub record HandsElement (was : Elements) (r : Option Element) (is : Elements) : Type 0 where
  pub bytes : is.reader.bytes.now ≡ was.reader.bytes.now
  pub end : is.reader.end ≡ was.reader.end
  pub counted : MatchOption r (is.count ≡ was.count) (λ e. was.count ≡ is.count + 1)
  pub first : (t : Tree) (ts : List Tree) → Stand was (t ∷ ts) → MatchOption r ⊥ (λ e. FirstOf was t ts e is)
