-- Rules for the elements that stand back to back in some contents: the place of the first break, or none.
-- A rule is given the place of the elements that are left. Where it wants one and none is left, that place is the end of the contents.
use Rattle.std.specs.Prelude.{ℕ, suc, ◌+◌, Bool, false, cond, List, [], ◌∷◌, length, Some, None, Option, ◌==◌}
use Rattle.fields.specs.Reads.{is}
use Rattle.der.specs.Trees.{Tree, leaf, node, Forest, none, more, length_bytes, tag_of, body_of}

-- the contents as elements
abbrev pub parts_of : Tree → Forest
parts_of (leaf tag body) = none
parts_of (node tag parts) = parts

abbrev pub head_size : Tree → ℕ
head_size t = suc (length (length_bytes (length (body_of t))))

abbrev pub body_size : Tree → ℕ
body_size t = length (body_of t)

abbrev pub Rule : Type 0
Rule = ℕ → Forest → Option ℕ

-- the tags that may stand in a place
abbrev pub Tags : Type 0
Tags = ℕ → Bool

abbrev pub or_else : Option ℕ → Option ℕ → Option ℕ
or_else None later = later
or_else (Some p) later = Some p

-- nothing more
abbrev pub nothing : Rule
nothing p none = None
nothing p (more t ts) = Some p

-- anything
abbrev pub free : Rule
free p ts = None

-- the first element's contents by one rule, and then what is behind it by another
abbrev pub onward : Rule → Rule → ℕ → Tree → Forest → Option ℕ
onward inner next p t ts = or_else (inner (p + head_size t) (parts_of t)) (next (p + head_size t + body_size t) ts)

-- one element with such a tag
abbrev pub field : Tags → Rule → Rule → Rule
field tags inner next p none = Some p
field tags inner next p (more t ts) = cond (tags (tag_of t)) (onward inner next p t ts) (Some p)

-- such an element, or none
abbrev pub optional : Tags → Rule → Rule → Rule
optional tags inner next p none = next p none
optional tags inner next p (more t ts) = cond (tags (tag_of t)) (onward inner next p t ts) (next p (more t ts))

-- any number of them, and nothing more
abbrev pub list : Tags → Rule → Rule
list tags inner p none = None
list tags inner p (more t ts) =
    cond (tags (tag_of t)) (or_else (inner (p + head_size t) (parts_of t)) (list tags inner (p + head_size t + body_size t) ts)) (Some p)

-- at least one
abbrev pub some : Tags → Rule → Rule
some tags inner = field tags inner (list tags inner)

-- an element of this tag whose contents decide what follows; where they decide nothing, it is the wrong element
abbrev pub follow : Option Rule → ℕ → ℕ → Forest → Option ℕ
follow None wrong p ts = Some wrong
follow (Some next) wrong p ts = next p ts

abbrev pub choose : ℕ → (List ℕ → Option Rule) → Rule
choose tag next p none = Some p
choose tag next p (more t ts) = cond (is tag (tag_of t)) (follow (next (body_of t)) p (p + head_size t + body_size t) ts) (Some p)

-- the contents are the one byte v
abbrev pub one : ℕ → List ℕ → Bool
one v [] = false
one v (x ∷ []) = x == v
one v (x ∷ y ∷ ys) = false
