-- Where the index lies that a signer carries, told by trees.
use Rattle.std.specs.Prelude.{ℕ}
use Rattle.der.specs.declared.span.Span.{Span}
use Rattle.der.specs.Trees.{Forest}
use Rattle.fields.specs.Placed.{span_of, placed_from, inside_of, nth}

-- the value of the one attribute in the field that stands first
abbrev pub carried_at : ℕ → Forest → Span
carried_at at ts = span_of (nth 0 (inside_of (nth 1 (inside_of (nth 0 (inside_of (nth 0 (placed_from at ts))))))))
