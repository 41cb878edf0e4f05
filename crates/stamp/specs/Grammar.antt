-- How a token's signer carries an index, element by element: the place of the first field that is missing, wrong or surplus.
use Rattle.std.specs.Prelude.{cond, Some, None}
use Rattle.std.specs.Str.{bytes_eq}
use Rattle.fields.specs.Reads.{is}
use Rattle.fields.specs.Rules.{Rule, nothing, free, field, choose}
use Rattle.cms.specs.Grammar.{any}
use Rattle.stamp_model.specs.Stamps.{index_kind}

-- one value
abbrev pub one_value : Rule
one_value = field any free nothing

-- the values, 31, behind the type
abbrev pub values : Rule
values = field (is 0x31) one_value nothing

-- an attribute of the type of indexes, with one value
abbrev pub index_attribute : Rule
index_attribute = choose 6 (λ kind. cond (bytes_eq kind index_kind) (Some values) None)

-- one attribute
abbrev pub one_attribute : Rule
one_attribute = field (is 0x30) index_attribute nothing

-- behind the six fields: unsigned attributes, A1, with that one
abbrev pub carried : Rule
carried = field (is 0xa1) one_attribute nothing
