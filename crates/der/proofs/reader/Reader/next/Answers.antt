use Rattle.std.proofs.Common.{rules, ◌≡◌, Ok, subst, sym}
use Rattle.der.specs.declared.span.Span.{Span}
use Rattle.der.specs.Head.{header_of}
use Rattle.der.specs.Spans.{part, FirstTree}
use Rattle.der.specs.Trees.{encodes}
use Rattle.der.proofs.Parts.{first_tree}
use Rattle.der.proofs.Unique.{valid_head}
use Rattle.der.proofs.reader.Reader.next.Goals as goal

pub returns-in_err-header-clause-trees : goal.returns-in_err-header-clause-trees
returns-in_err-header-clause-trees c = λ t ts levels v q.
    let p = valid_head t levels (encodes ts) _ v.0 q in
    search rules

pub returns-clause-trees : goal.returns-clause-trees
returns-clause-trees c = λ t ts levels v q.
    let bs = c.args.self.now.bytes.now in
    let at = c.args.self.now.at in
    let end = c.args.self.now.end in
    let e : header_of (part bs at end) ≡ Ok c.in_ok-header.header = search rules in
    subst (λ (x : Span). FirstTree bs end t ts x x.end) (sym c.locate-span.ensures)
    (first_tree bs at end c.in_ok-header.header t ts levels e v q)
