-- What the outline of a file tells: its lines, or the first reason to refuse it.
use Rattle.std.specs.Prelude.{◌≡◌, ℕ, ◌<◌, ◌≤◌, List, length, vec_items, Result, MatchResult}
use Rattle.der.specs.Trees.{Tree, Valid, Starts, encode}
use Rattle.der.specs.Faults.{InElement}
use Rattle.der.specs.declared.broken.Broken.{Broken}
use Rattle.der.specs.declared.broken.Broken.TheVariants.{Faulty, Surplus as Behind}
use Rattle.listing.specs.declared.refusal.Refusal.{Refusal}
use Rattle.listing.specs.declared.refusal.Refusal.TheVariants.{Length, Element, Surplus}
use Rattle.listing.specs.declared.outline.Outline.{Outline}
use Rattle.listing.specs.declared.outline.OutlineError.{OutlineError}
use Rattle.listing.specs.declared.outline.OutlineError.TheVariants.{Refused, Memory}
use Rattle.listing.specs.Listed.{lines_of}

-- a length that a file may have
abbrev pub Sized : List ℕ → Type 0
Sized bs = (0 < length bs) × (length bs ≤ 65535)

-- the file is this one element, of at most 32 levels
abbrev pub Whole : List ℕ → Tree → Type 0
Whole bs t = Sized bs × Valid t 32 × (encode t ≡ bs)

-- why a file is refused: its length; else its element's first fault; else bytes behind its element, from n on
abbrev pub Refuses : List ℕ → Refusal → Type 0
Refuses bs Length = Sized bs → ⊥
Refuses bs (Element f) = Sized bs × InElement 32 bs 0 f
Refuses bs (Surplus n) = Sized bs × Starts 32 bs n × (n < length bs)

-- what is refused of bytes that are not one element
abbrev pub refusal_of : Broken → Refusal
refusal_of (Faulty f) = Element f
refusal_of (Behind n) = Surplus n

-- the outline has the lines of the file's one tree
abbrev pub Lists : List ℕ → Outline → Type 0
Lists bs outline = (t : Tree) × Whole bs t × (vec_items outline.lines ≡ lines_of 0 1 t)

-- why there is none: the file is refused, or memory is short for a whole file
abbrev pub NoOutline : List ℕ → OutlineError → Type 0
NoOutline bs (Refused r) = Refuses bs r
NoOutline bs (Memory short) = (t : Tree) × Whole bs t

-- what is told of a file: its outline, or why it is refused
abbrev pub Tells : List ℕ → Result Outline Refusal → Type 0
Tells bs told = MatchResult told (Lists bs) (Refuses bs)
