-- What a token tells, field by field, as it is read from its bytes.
use Rattle.std.specs.Prelude.{ℕ, cond, List, Ok, Err, Result, ◌==◌}
use Rattle.der.specs.declared.span.Span.{Span}
use Rattle.fields.specs.Reads.{◌>>=◌, ◌>>◌, expect_of, number_of, finish_of}
use Rattle.index.specs.Records.{algorithm_of}
use Rattle.token.specs.declared.located.ImprintParts.{ImprintParts}
use Rattle.token.specs.declared.located.InfoParts.{InfoParts}

-- the contents of the imprint field
abbrev pub imprint_in : List ℕ → Span → Result ImprintParts ℕ
imprint_in file field = do
  algorithm ← algorithm_of file field.body field.end
  imprint ← expect_of 4 file algorithm.whole.end field.end
  finish_of imprint.end field.end
  Ok (record { field = field; algorithm = algorithm; imprint = imprint })

-- the version, which stands at `place`
abbrev pub version_of : ℕ → ℕ → Result (Unit {0}) ℕ
version_of place v = cond (v == 1) (Ok tt) (Err place)

-- the contents of the element `whole`
abbrev pub info_in : List ℕ → Span → Result InfoParts ℕ
info_in file whole = do
  version ← number_of file whole.body whole.end
  version_of whole.body version.value
  policy ← expect_of 6 file version.element.end whole.end
  field ← expect_of 0x30 file policy.end whole.end
  imprint ← imprint_in file field
  Ok (record { whole = whole; policy = policy; imprint = imprint })

-- the element that stands from `at` to `end`, and nothing behind it
abbrev pub info_of : List ℕ → ℕ → ℕ → Result InfoParts ℕ
info_of file at end = do
  whole ← expect_of 0x30 file at end
  info ← info_in file whole
  finish_of whole.end end
  Ok info
