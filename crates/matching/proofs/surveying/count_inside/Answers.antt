use Rattle.std.proofs.Common.{rules, tests, ◌∙◌}
use Rattle.std.proofs.lemmas.Iterator.{YieldsList-from_slice}
use Rattle.std.proofs.lemmas.Iterator.Consumers.{YieldsList-from_filter, count_from_yields_List}
use Rattle.matching.proofs.Rowing.{is_inside, inside_counted}
use Rattle.matching.proofs.surveying.count_inside.Goals as goal

pub returns-clause-value : goal.returns-clause-value
returns-clause-value c =
    count_from_yields_List c.filter.result c.count.result c.count.ensures.ran
    (YieldsList-from_filter _ is_inside (YieldsList-from_slice c.args.rows.now (cc)) c.filter.ensures.closure (λ x b q k. search (rules, tests)))
    ∙ inside_counted c.args.rows.now
