-- The records of an index, field by field, as they are read from its bytes.
use Rattle.std.specs.Prelude.{ℕ, Bool, cond, List, is_some, is_ok, Some, None, Ok, Err, Option, Result, nat_lt}
use Rattle.der.specs.declared.span.Span.{Span}
use Rattle.fields.specs.declared.located.Entries.{Entries}
use Rattle.index.specs.declared.located.AlgorithmParts.{AlgorithmParts}
use Rattle.index.specs.declared.located.IndexParts.{IndexParts}
use Rattle.fields.specs.Reads.{◌>>=◌, ◌>>◌, expect_of, optional_of, finish_of, list_of, entries_in, maybe_of, behind, span_stop}

-- an element with no contents; one with contents is the wrong element
abbrev pub empty_in : Span → Result Span ℕ
empty_in e = cond (nat_lt e.body e.end) (Err e.start) (Ok e)

-- the empty parameters, if an element tagged 05 stands there
abbrev pub null_of : List ℕ → ℕ → ℕ → Result (Option Span) ℕ
null_of file at end = maybe_of empty_in (optional_of 5 file at end)

-- the contents of the algorithm `whole`
abbrev pub algorithm_in : List ℕ → Span → Result AlgorithmParts ℕ
algorithm_in file whole = do
  name ← expect_of 6 file whole.body whole.end
  null ← null_of file name.end whole.end
  finish_of (behind span_stop name.end null) whole.end
  Ok (record { whole = whole; name = name; null = is_some null })

abbrev pub algorithm_of : List ℕ → ℕ → ℕ → Result AlgorithmParts ℕ
algorithm_of file at end = expect_of 0x30 file at end >>= algorithm_in file

abbrev pub algorithm_stop : AlgorithmParts → ℕ
algorithm_stop a = a.whole.end

-- whether an algorithm stands at `at`: an element tagged 30 whose first element is tagged 06
abbrev pub has_algorithm_of : List ℕ → ℕ → ℕ → Bool
has_algorithm_of file at end = is_ok (expect_of 0x30 file at end >>= (λ e. expect_of 6 file e.body e.end))

-- an algorithm, if one stands there
abbrev pub maybe_algorithm : List ℕ → ℕ → ℕ → Result (Option AlgorithmParts) ℕ
maybe_algorithm file at end = cond (has_algorithm_of file at end) (algorithm_of file at end >>= (λ a. Ok (Some a))) (Ok None)

-- a list of entries, each an octet string
abbrev pub list_in : List ℕ → Span → Result Entries ℕ
list_in file field = entries_in (list_of (expect_of 4)) file field

abbrev pub list_at : List ℕ → ℕ → ℕ → Result Entries ℕ
list_at file at end = expect_of 0x30 file at end >>= list_in file

-- the lists of the index `whole`, behind its algorithm if it names one, and nothing more
abbrev pub lists_behind : List ℕ → Span → Option AlgorithmParts → Result IndexParts ℕ
lists_behind file whole algorithm = do
  certificates ← list_at file (behind algorithm_stop whole.body algorithm) whole.end
  revocations ← list_at file certificates.field.end whole.end
  attributes ← list_at file revocations.field.end whole.end
  finish_of attributes.field.end whole.end
  Ok (record { whole = whole; algorithm = algorithm; certificates = certificates; revocations = revocations; attributes = attributes })

-- the contents of the index `whole`
abbrev pub index_in : List ℕ → Span → Result IndexParts ℕ
index_in file whole = maybe_algorithm file whole.body whole.end >>= lists_behind file whole

-- the index from `at` to `end`, and nothing behind it
abbrev pub index_parts_of : List ℕ → ℕ → ℕ → Result IndexParts ℕ
index_parts_of file at end = do
  whole ← expect_of 0x30 file at end
  parts ← index_in file whole
  finish_of whole.end end
  Ok parts
