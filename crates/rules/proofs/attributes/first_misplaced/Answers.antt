use Rattle.std.proofs.Common.{◌≡◌, rules, tests, ap, sym, ◌∙◌}
use Rattle.std.proofs.lemmas.Iterator.Consumers.{YieldsList-from_first}
use Rattle.std.proofs.lemmas.Iterator.Search.{find_from_yields_List}
use Rattle.std.proofs.lemmas.Iterator.Adapters.{option_map_id}
use Rattle.fields.specs.Runs.{run_of}
use Rattle.cms.specs.Records.{attribute_of, attribute_stop}
use Rattle.rules.specs.Attributes.{is_among}
use Rattle.rules.specs.Kinds.{signed_kinds}
use Rattle.rules.proofs.Lying.{is_named, start_of, find_with, row_lying}
use Rattle.rules.proofs.attributes.first_misplaced.Goals as goal

pub returns : goal.returns
returns c = λ levels ms r.
    let file = c.args.unsigned.bytes.now in
    let end = c.args.unsigned.end in
    let found = find_from_yields_List (is_named levels file end (is_among signed_kinds)) c.find.new.self _ c.find.result c.find.ensures.ran
    (YieldsList-from_first (λ x. x) (λ run. run_of attribute_of attribute_stop run.reader) _ (ap (run_of attribute_of attribute_stop) c.of.ensures)) (λ x b q k. search (rules, tests)) in
    let there : c.map.result ≡ start_of levels file end c.find.result = search (rules, tests) in
    there ∙ ap (start_of levels file end) (sym (option_map_id c.find.result) ∙ found)
    ∙ find_with levels file end (is_among signed_kinds) c.args.unsigned.at ms _ (row_lying levels file end c.args.unsigned.at ms r)
