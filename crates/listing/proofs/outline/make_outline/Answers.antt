use Rattle.std.proofs.Common.{ℕ, ◌++◌, sym, ap, ◌∙◌, rules}
use Rattle.listing.specs.Listed.{lines_in}
use Rattle.listing.proofs.Ends.{all_read, forms_of, lines_of_lem}
use Rattle.listing.proofs.outline.make_outline.Goals as goal

pub list_elements-requires-clause-forms : goal.list_elements-requires-clause-forms
list_elements-requires-clause-forms c =
    let f = forms_of c.args.bytes.now c.in_ok-walk_one.ensures.meaning in
    (f.0, f.1, f.2 ∙ sym (all_read c.args.bytes.now c.new.result c.new.ensures))

pub returns : goal.returns
returns c =
    let all = all_read c.args.bytes.now c.new.result c.new.ensures in
    lines_of_lem c.args.bytes.now _ _ (search rules, search rules) c.in_ok-walk_one.ensures.meaning c.new-lines.ensures.items
    (λ ts v e. c.in_ok-list_elements.ensures ts v (e ∙ sym all) ∙ ap (λ (p : ℕ). c.new-lines.result.items ++ lines_in p 1 ts) c.new.ensures.1)
