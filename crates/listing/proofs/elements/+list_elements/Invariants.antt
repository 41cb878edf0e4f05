use Rattle.std.proofs.Common.{◌-◌, ◌≤◌, length, vec_items}
use Rattle.der.specs.Spans.{part}
use Rattle.listing.proofs.Turns.{Left}
use Rattle.listing.proofs.elements.+list_elements.Given as goal

abbrev pub decreases-list_elements : goal.decreases-list_elements
decreases-list_elements l = 33 - l.level

abbrev pub invariant-loop-reader : goal.invariant-loop-reader
invariant-loop-reader l = record {
  order : l.reader.at ≤ l.reader.end;
  within : l.reader.end ≤ length l.reader.bytes.now;
  left : Left (33 - l.level) l.level l.elements.at l.reader.at (part l.elements.bytes.now l.elements.at l.elements.end) (part l.reader.bytes.now l.reader.at l.reader.end) (vec_items l.initial.lines) (vec_items l.lines);
}

abbrev pub decreases-loop-reader : goal.decreases-loop-reader
decreases-loop-reader l = l.reader.end - l.reader.at
