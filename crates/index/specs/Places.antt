-- Where the parts of an index lie, told by its tree.
use Rattle.std.specs.Prelude.{ℕ, cond, List, [], ◌∷◌, drop, is_some, Some, None, Option}
use Rattle.der.specs.declared.span.Span.{Span}
use Rattle.der.specs.Trees.{Tree}
use Rattle.fields.specs.Placed.{Placed, span_of, inside_of, nth, if_first, mapped, entries_for}
use Rattle.index.specs.declared.located.AlgorithmParts.{AlgorithmParts}
use Rattle.index.specs.declared.located.IndexParts.{IndexParts}
use Rattle.index.specs.Grammar.{is_algorithm}

-- an algorithm: its identifier, and its parameters if they are there
abbrev pub algorithm_from : Span → List Placed → AlgorithmParts
algorithm_from whole parts = record { whole = whole; name = span_of (nth 0 parts); null = is_some (if_first 5 (drop 1 parts)) }

-- the algorithm that an element is
abbrev pub algorithm_at : Placed → AlgorithmParts
algorithm_at x = algorithm_from (span_of x) (inside_of x)

-- the first of some elements, if it stands for an algorithm
abbrev pub if_algorithm : List Placed → Option Placed
if_algorithm [] = None
if_algorithm (x ∷ xs) = cond (is_algorithm x.tree) (Some x) None

-- those behind it, or all if it is not there
abbrev pub past_algorithm : List Placed → List Placed
past_algorithm [] = []
past_algorithm (x ∷ xs) = cond (is_algorithm x.tree) xs (x ∷ xs)

-- an index: an algorithm that may be there, and three lists
abbrev pub index_from : Span → List Placed → IndexParts
index_from whole parts = record {
  whole = whole;
  algorithm = mapped algorithm_at (if_algorithm parts);
  certificates = entries_for (nth 0 (past_algorithm parts));
  revocations = entries_for (nth 1 (past_algorithm parts));
  attributes = entries_for (nth 2 (past_algorithm parts));
}

-- the index that begins at `at`
abbrev pub index_at : ℕ → Tree → IndexParts
index_at at t = index_from (span_of (record { at = at; tree = t })) (inside_of (record { at = at; tree = t }))
