-- Elements that stand somewhere hand out just these, one after another.
use Rattle.std.proofs.Common.{List, [], ◌∷◌, ℕ, map, arith}
use Rattle.std.proofs.lemmas.Iterator.{YieldsList}
use Rattle.std.specs.Iterator.{AlwaysYields}
use Rattle.der.specs.Spans.{part}
use Rattle.der.specs.Trees.{Tree, body_of}
use Rattle.der.specs.declared.element.Element.{Element}
use Rattle.index.specs.declared.elements.Elements.{Elements}
use Rattle.index.specs.Standing.{Stand}
use Rattle.index.specs.Handing.{HandsElement}

-- the bytes behind the header of an element
abbrev pub contents_of : Element → List ℕ
contents_of e = part e.bytes.now e.span.body e.span.end

bodies : (ts : List Tree) (elements : Elements) → Stand elements ts → AlwaysYields HandsElement contents_of elements (map body_of ts)
bodies [] elements s = λ x is h. absurd (omega (arith, h.counted, s.count))
bodies (t ∷ ts) elements s = ((λ is h. h.first t ts s), (λ x is h. let f = h.first t ts s in (f.inside, bodies ts is f.others)))

pub bodies_yielded : (ts : List Tree) (elements : Elements) → Stand elements ts → YieldsList HandsElement contents_of elements (map body_of ts)
bodies_yielded ts elements s = record { runs = bodies ts elements s }
