use Rattle.std.proofs.Common.{◌≡◌, ◌+◌, ◌*◌, List}
use Rattle.der.specs.Trees.{Tree}
use Rattle.index.specs.Standing.{Stand}
use Rattle.index.proofs.Entering.{Halfway}
use Rattle.matching.proofs.Joining.{Digested}
use Rattle.matching.proofs.digests.digesting.put_digests.Given as goal

-- the elements that are read have their digests, and there is room for the others
abbrev pub invariant-loop-element : goal.invariant-loop-element
invariant-loop-element g l =
    (goal.iterator-loop-element g).can_next l.element-iterator × (goal.iterator-loop-element g).is_finite l.element-iterator
    × (l.stop + l.element-iterator.count * g.G.Digest.size ≡ l.fn.elements.count * g.G.Digest.size)
    × ((ts : List Tree) → Stand l.fn.elements ts → Halfway (Digested g.G.Digest.value l.initial.area l.area l.stop) l.element-iterator ts)
