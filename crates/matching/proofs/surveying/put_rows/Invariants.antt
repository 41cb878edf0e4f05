use Rattle.std.proofs.Common.{◌≡◌, ◌+◌, List, map}
use Rattle.der.specs.Trees.{Tree, body_of}
use Rattle.index.specs.Standing.{Stand}
use Rattle.index.proofs.Entering.{Halfway}
use Rattle.matching.proofs.Rowing.{Rowed}
use Rattle.matching.proofs.surveying.put_rows.Given as goal

-- the elements that are read have their rows, and there is room for the others
abbrev pub invariant-loop-element : goal.invariant-loop-element
invariant-loop-element g l =
    (goal.iterator-loop-element g).can_next l.element-iterator × (goal.iterator-loop-element g).is_finite l.element-iterator
    × (l.stop + l.element-iterator.count ≡ l.at + l.fn.elements.count)
    × ((ts us : List Tree) → Stand l.fn.elements ts → Stand l.entries us →
    Halfway (Rowed g.G.Digest.value l.list (map body_of us) l.fn.elements.reader.at l.initial.table l.table l.at l.stop l.element-iterator.reader.at) l.element-iterator ts)
