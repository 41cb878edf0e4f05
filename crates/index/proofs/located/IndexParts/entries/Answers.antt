use Rattle.std.proofs.Common.{subst}
use Rattle.index.specs.declared.elements.ElementLists.{ElementLists}
use Rattle.index.specs.declared.located.IndexParts.{IndexParts}
use Rattle.index.specs.Standing.{AreEntries}
use Rattle.index.proofs.Inside.{index_stand}
use Rattle.index.proofs.located.IndexParts.entries.Goals as goal

pub returns : goal.returns
returns c =
    let file = c.args.file.now in
    let lists : ElementLists = record { certificates = c.in_field.result; revocations = c.in_field-2.result; attributes = c.in_field-3.result } in
    let found : AreEntries file c.args.self.now lists = record { certificates = c.in_field.ensures; revocations = c.in_field-2.ensures; attributes = c.in_field-3.ensures } in
    record {
      computed = found;
      meaning = λ x levels at end v l e m. index_stand file x levels at end lists v l e (subst (λ (parts : IndexParts). AreEntries file parts lists) m found);
    }
