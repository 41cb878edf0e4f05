-- The index and the algorithm in it, element by element: the place of the first field that is missing, wrong or surplus.
use Rattle.std.specs.Prelude.{ℕ, ◌+◌, Bool, false, cond, ◌&&◌, List, Some, None, Option, ◌==◌}
use Rattle.der.specs.Trees.{Tree, Forest, none, more, tag_of}
use Rattle.fields.specs.Reads.{is}
use Rattle.fields.specs.Rules.{parts_of, head_size, body_size, or_else, Rule, nothing, free, onward, field, list}
use Rattle.cms.specs.Grammar.{surplus_at}

-- 05 00
abbrev pub is_null : Tree → Bool
is_null t = is 5 (tag_of t) && body_size t == 0

-- empty parameters, if any element is there, and nothing more
abbrev pub parameters : Rule
parameters p none = None
parameters p (more t ts) = cond (is_null t) (nothing (p + head_size t + body_size t) ts) (Some p)

-- 30: an identifier, 06, and its parameters
abbrev pub algorithm : Rule
algorithm = field (is 6) free parameters

-- the first of some elements has the tag
abbrev pub begins : ℕ → Forest → Bool
begins tag none = false
begins tag (more t ts) = is tag (tag_of t)

-- an element stands for an algorithm: it is tagged 30, and its first element 06
abbrev pub is_algorithm : Tree → Bool
is_algorithm t = is 0x30 (tag_of t) && begins 6 (parts_of t)

-- entries: octet strings, 04, any number
abbrev pub entries : Rule
entries = list (is 4) free

-- three lists of entries, 30 each, and nothing more
abbrev pub lists : Rule
lists = field (is 0x30) entries (field (is 0x30) entries (field (is 0x30) entries nothing))

-- 30: an algorithm, if the first element stands for one, and the lists
abbrev pub index : Rule
index p none = lists p none
index p (more t ts) = cond (is_algorithm t) (onward algorithm lists p t ts) (lists p (more t ts))

-- the first break of the index that stands at `p`, if there is one
abbrev pub index_break : ℕ → Tree → List ℕ → Option ℕ
index_break p t surplus =
    cond (is 0x30 (tag_of t)) (or_else (index (p + head_size t) (parts_of t)) (surplus_at (p + head_size t + body_size t) surplus)) (Some p)
