-- Where the parts lie of what a token tells, told by its tree.
use Rattle.std.specs.Prelude.{ℕ, List}
use Rattle.der.specs.declared.span.Span.{Span}
use Rattle.der.specs.Trees.{Tree}
use Rattle.fields.specs.Placed.{Placed, span_of, inside_of, nth}
use Rattle.index.specs.Places.{algorithm_at}
use Rattle.token.specs.declared.located.ImprintParts.{ImprintParts}
use Rattle.token.specs.declared.located.InfoParts.{InfoParts}

abbrev pub imprint_from : Span → List Placed → ImprintParts
imprint_from field parts = record { field = field; algorithm = algorithm_at (nth 0 parts); imprint = span_of (nth 1 parts) }

-- the imprint field that an element is
abbrev pub imprint_at : Placed → ImprintParts
imprint_at x = imprint_from (span_of x) (inside_of x)

abbrev pub info_from : Span → List Placed → InfoParts
info_from whole parts = record { whole = whole; policy = span_of (nth 1 parts); imprint = imprint_at (nth 2 parts) }

-- what the element tells that begins at `at`
abbrev pub info_at : ℕ → Tree → InfoParts
info_at at t = info_from (span_of (record { at = at; tree = t })) (inside_of (record { at = at; tree = t }))
