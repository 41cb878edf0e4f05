use Rattle.std.proofs.Common.{◌&&◌, rules, tests}
use Rattle.std.proofs.lemmas.Iterator.{YieldsList-from_slice}
use Rattle.std.proofs.lemmas.Iterator.Search.{any_from_yields_List}
use Rattle.rules.specs.Attributes.{names, holds}
use Rattle.rules.specs.Kinds.{signed_kinds}
use Rattle.rules.proofs.attributes.stands_again.Goals as goal

pub returns : goal.returns
returns c = λ levels ms r.
    any_from_yields_List (λ kind. names kind c.args.name.now && holds kind ms) c.any.new.self _ c.any.result c.any.ensures.ran
    (YieldsList-from_slice signed_kinds (cc)) (λ x b q k. search (rules, tests, r))
