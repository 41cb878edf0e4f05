use Rattle.std.proofs.Common.{not, rules, tests, ◌∙◌}
use Rattle.std.proofs.lemmas.Iterator.Search.{position_from_yields_List}
use Rattle.index.proofs.Yielding.{bodies_yielded}
use Rattle.matching.specs.Lists.{digests_in, holds}
use Rattle.matching.proofs.Missing.{position_missing}
use Rattle.matching.proofs.finding.first_missing.Goals as goal

pub returns : goal.returns
returns c = λ ts s.
    position_from_yields_List (λ x. not (holds (digests_in c.args.digests.now) x)) c.position.new.self _ c.position.result c.position.ensures.ran (bodies_yielded ts _ s)
    (λ x b q k. search (rules, tests))
    ∙ position_missing (digests_in c.args.digests.now) _
