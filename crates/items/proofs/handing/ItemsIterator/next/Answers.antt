use Rattle.std.proofs.Common.{◌≡◌, ℕ, List, [], Ok, Result, sym, refl, ap, ◌∙◌, arith}
use Rattle.der.specs.declared.fault.Fault.{Fault}
use Rattle.der.specs.declared.span.Span.{Span}
use Rattle.der.specs.Head.{header_of}
use Rattle.der.specs.Spans.{part, element_of, spanned}
use Rattle.items.proofs.handing.ItemsIterator.next.Goals as goal

-- an element is none where no byte is left
none_read : (file : List ℕ) (at end : ℕ) (s : Span) → element_of file at end ≡ Ok s → part file at end ≡ [] → ⊥
none_read file at end s e z =
    let q : ◌≡◌ {A = Result Span Fault} (spanned at (header_of [])) (Ok s) = sym (ap (λ (x : List ℕ). spanned at (header_of x)) z) ∙ e in
    let n : ◌≡◌ {A = ℕ} 0 1 = cc in omega arith

pub returns-clause-steps : goal.returns-clause-steps
returns-clause-steps c =
    let same = c.next.ensures.stands in
    let reads = c.in-Ok.ensures.reads in
    record {
      stands = (same.0, same.1, refl);
      trees = λ t ts levels v e.
          let f = c.in-Ok.ensures.trees t ts levels v e in (
            (
              reads.1.start,
              (c.whole.result, c.item_of.ensures, c.whole.ensures ∙ ap (λ (x : List ℕ). part x c.in-Ok.element.span.start c.in-Ok.element.span.end) reads.0 ∙ f.whole),
            ),
            ap (λ (x : List ℕ). part x c.next.new.self.at c.next.new.self.end) same.0 ∙ ap (part c.args.self.now.reader.bytes.now c.next.new.self.at) same.1 ∙ f.rest,
          );
      none = λ z. absurd (none_read c.args.self.now.reader.bytes.now c.args.self.now.reader.at c.args.self.now.reader.end c.in-Ok.element.span reads.1.read z);
    }
