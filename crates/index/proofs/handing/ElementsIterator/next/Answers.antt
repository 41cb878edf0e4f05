use Rattle.std.proofs.Common.{ℕ, List, length, ap, ◌∙◌, arith}
use Rattle.der.specs.Spans.{part}
use Rattle.der.proofs.Parts.{length_part}
use Rattle.model.specs.Parts.{row}
use Rattle.index.proofs.handing.ElementsIterator.next.Goals as goal

pub returns-clause-steps : goal.returns-clause-steps
returns-clause-steps c =
    let was = c.args.self.now.reader in
    let is = c.next.new.self in
    let stands = c.next.ensures.stands in
    let element = c.in-Ok.element in
    let same = c.in-Ok.ensures.reads.0 in
    let handed = c.in-Ok.ensures.reads.1 in
    record {
      bytes = stands.0;
      end = stands.1;
      counted = omega (arith, c.if-self-eq0.false);
      first = λ t ts s.
          let f = c.in-Ok.ensures.trees t (row ts) s.levels s.valid s.bytes in
          let whole = ap (λ (x : List ℕ). part x element.span.start element.span.end) same ∙ f.whole in
          let size = length_part was.bytes.now element.span.start element.span.end in
          record {
            whole = whole;
            inside = ap (λ (x : List ℕ). part x element.span.body element.span.end) same ∙ f.inside;
            start = handed.start;
            after = omega (arith, handed.start, handed.body, handed.ends, handed.within, handed.behind, size, ap length f.whole, s.inside);
            valid = (s.levels, s.valid.0);
            others = record {
              levels = s.levels;
              valid = s.valid.1;
              bytes = ap (λ (x : List ℕ). part x is.at is.end) stands.0 ∙ ap (part was.bytes.now is.at) stands.1 ∙ f.rest;
              order = omega (arith, handed.behind, handed.within, stands.1);
              inside = omega (arith, stands.1, s.inside, ap length stands.0);
              count = omega (arith, s.count, c.if-self-eq0.false);
            };
          };
    }
