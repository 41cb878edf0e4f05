-- The index that a signer carries, field by field, as it is read from bytes.
use Rattle.std.specs.Prelude.{ℕ, List, Ok, Result}
use Rattle.der.specs.declared.span.Span.{Span}
use Rattle.fields.specs.Reads.{◌>>=◌, ◌>>◌, any_of, expect_of, named_of, finish_of}
use Rattle.stamp_model.specs.Stamps.{index_kind}

-- the one value in its set
abbrev pub value_in : List ℕ → Span → Result Span ℕ
value_in file set = do
  value ← any_of file set.body set.end
  finish_of value.end set.end
  Ok value

-- the contents of the attribute
abbrev pub attribute_in : List ℕ → Span → Result Span ℕ
attribute_in file whole = do
  kind ← named_of index_kind file whole.body whole.end
  set ← expect_of 0x31 file kind.end whole.end
  value ← value_in file set
  finish_of set.end whole.end
  Ok value

-- the contents of the field of unsigned attributes
abbrev pub unsigned_in : List ℕ → Span → Result Span ℕ
unsigned_in file field = do
  attribute ← expect_of 0x30 file field.body field.end
  value ← attribute_in file attribute
  finish_of attribute.end field.end
  Ok value

-- what stands from `at` to `end`, behind the six fields
abbrev pub carried_of : List ℕ → ℕ → ℕ → Result Span ℕ
carried_of file at end = do
  field ← expect_of 0xa1 file at end
  value ← unsigned_in file field
  finish_of field.end end
  Ok value
