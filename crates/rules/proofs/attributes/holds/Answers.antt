use Rattle.std.proofs.Common.{rules, tests, ap, ◌∙◌}
use Rattle.std.proofs.lemmas.Iterator.Consumers.{YieldsList-from_first}
use Rattle.std.proofs.lemmas.Iterator.Search.{any_from_yields_List}
use Rattle.fields.specs.Runs.{run_of}
use Rattle.cms.specs.Records.{attribute_of, attribute_stop}
use Rattle.rules.specs.Attributes.{names}
use Rattle.rules.proofs.Lying.{is_named, any_holds, row_lying}
use Rattle.rules.proofs.attributes.holds.Goals as goal

pub returns : goal.returns
returns c = λ levels ms r.
    let file = c.args.attributes.bytes.now in
    let end = c.args.attributes.end in
    any_from_yields_List (is_named levels file end (names c.args.kind)) c.any.new.self _ c.any.result c.any.ensures.ran
    (YieldsList-from_first (λ x. x) (λ run. run_of attribute_of attribute_stop run.reader) _ (ap (run_of attribute_of attribute_stop) c.of.ensures)) (λ x b q k. search (rules, tests))
    ∙ any_holds levels file end c.args.kind c.args.attributes.at ms _ (row_lying levels file end c.args.attributes.at ms r)
