use Rattle.std.proofs.Common.{rules, tests, ◌∙◌}
use Rattle.std.proofs.lemmas.Iterator.Search.{any_from_yields_List}
use Rattle.std.specs.Str.{bytes_eq}
use Rattle.matching.proofs.Joining.{parts_yielded}
use Rattle.matching.proofs.Missing.{any_holds}
use Rattle.matching.proofs.digests.Digests.holds.Goals as goal

pub returns : goal.returns
returns c =
    any_from_yields_List (λ x. bytes_eq x c.args.wanted.now) c.any.new.self _ c.any.result c.any.ensures.ran
    (parts_yielded c.args.self.now.size c.args.self.now.count c.args.self.now.bytes c.chunks_exact.result (search rules) (search rules) c.chunks_exact.ensures.rest c.chunks_exact.ensures.size)
    (λ x b q k. search (rules, tests))
    ∙ any_holds _ c.args.wanted.now
