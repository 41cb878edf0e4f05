use Rattle.std.proofs.Common.{rules, tests, ◌∙◌}
use Rattle.std.proofs.lemmas.Iterator.Search.{any_from_yields_List}
use Rattle.std.specs.Str.{bytes_eq}
use Rattle.index.proofs.Yielding.{bodies_yielded}
use Rattle.matching.proofs.Missing.{any_holds}
use Rattle.matching.proofs.surveying.has_entry.Goals as goal

pub returns : goal.returns
returns c = λ us s.
    any_from_yields_List (λ x. bytes_eq x c.args.wanted.now) c.any.new.self _ c.any.result c.any.ensures.ran (bodies_yielded us _ s) (λ x b q k. search (rules, tests))
    ∙ any_holds _ c.args.wanted.now
