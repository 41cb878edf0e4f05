use Rattle.std.proofs.Common.{rules, tests}
use Rattle.std.proofs.lemmas.Iterator.{YieldsList-from_slice}
use Rattle.std.proofs.lemmas.Iterator.Search.{any_from_yields_List}
use Rattle.rules.specs.Attributes.{names}
use Rattle.rules.proofs.attributes.is_one_of.Goals as goal

pub returns : goal.returns
returns c =
    any_from_yields_List (λ kind. names kind c.args.name.now) c.any.new.self _ c.any.result c.any.ensures.ran
    (YieldsList-from_slice c.args.kinds.now (cc)) (λ x b q k. search (rules, tests))
