use Rattle.std.proofs.Common.{◌≡◌, ◌+◌, ◌*◌, List}
use Rattle.der.specs.Trees.{Tree}
use Rattle.index.specs.Sizes.{framed_size_of}
use Rattle.index.specs.Standing.{Stand}
use Rattle.index.proofs.Entering.{Halfway, Entered}
use Rattle.index.proofs.writing.put_entries.Given as goal

-- the elements that are read have their entries, and there is room for the others
abbrev pub invariant-loop-element : goal.invariant-loop-element
invariant-loop-element g l =
    (goal.iterator-loop-element g).can_next l.element-iterator × (goal.iterator-loop-element g).is_finite l.element-iterator
    × (l.stop + l.element-iterator.count * framed_size_of g.G.Digest.size ≡ l.at + l.fn.elements.count * framed_size_of g.G.Digest.size)
    × ((ts : List Tree) → Stand l.fn.elements ts → Halfway (Entered g.G.Digest.value l.initial.area l.area l.at l.stop) l.element-iterator ts)
