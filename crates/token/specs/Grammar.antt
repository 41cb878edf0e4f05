-- What a token tells, element by element: the place of the first field that is missing, wrong or surplus.
use Rattle.std.specs.Prelude.{ℕ, ◌+◌, cond, List, Some, None, Option}
use Rattle.der.specs.Trees.{Tree, tag_of}
use Rattle.fields.specs.Reads.{is}
use Rattle.fields.specs.Rules.{parts_of, head_size, body_size, or_else, Rule, nothing, free, field, choose, one}
use Rattle.cms.specs.Grammar.{surplus_at}
use Rattle.index.specs.Grammar.{algorithm}

-- the digest behind its algorithm
abbrev pub digest : Rule
digest = field (is 4) free nothing

-- 30: an algorithm, and the digest, 04
abbrev pub imprint : Rule
imprint = field (is 0x30) algorithm digest

-- behind the version: a policy's identifier, the imprint field, and anything
abbrev pub info_fields : Rule
info_fields = field (is 6) free (field (is 0x30) imprint free)

-- the version is 1
abbrev pub by_info_version : List ℕ → Option Rule
by_info_version version = cond (one 1 version) (Some info_fields) None

abbrev pub info : Rule
info = choose 2 by_info_version

-- the first break of the element that stands at `p`, with these bytes behind it
abbrev pub first_info_break : ℕ → Tree → List ℕ → Option ℕ
first_info_break p t surplus =
    cond (is 0x30 (tag_of t)) (or_else (info (p + head_size t) (parts_of t)) (surplus_at (p + head_size t + body_size t) surplus)) (Some p)
