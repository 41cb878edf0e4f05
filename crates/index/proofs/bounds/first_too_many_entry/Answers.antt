use Rattle.std.proofs.Common.{ap, ◌∙◌}
use Rattle.index.specs.declared.located.IndexParts.{IndexParts}
use Rattle.index.specs.Limits.{first_past_entry}
use Rattle.index.proofs.EntryLimits.{bytes_past}
use Rattle.index.proofs.bounds.first_too_many_entry.Goals as goal

pub returns : goal.returns
returns c =
    let found = c.find_in_lists.ensures in
    let bytes = c.args.file.now in
    record {
      computed = found;
      meaning = λ x levels at end v l e m. found ∙ ap (λ (y : IndexParts). first_past_entry bytes y) m ∙ bytes_past x levels bytes at end v l e;
    }
