use Rattle.std.proofs.Common.{ap, ◌∙◌}
use Rattle.cms.specs.declared.located.Message.{Message}
use Rattle.limits.specs.Past.{first_past}
use Rattle.limits.proofs.Filing.{file_past}
use Rattle.limits.proofs.lists.first_too_many.Goals as goal

pub returns : goal.returns
returns c =
    let found = c.find_in_message.ensures in
    let bytes = c.args.file.now in
    record {
      computed = found;
      meaning = λ settings f levels k v e m. found ∙ ap (λ (x : Message). first_past bytes x) m ∙ file_past settings f levels bytes k v e;
    }
