use Rattle.std.proofs.Common.{◌≡◌, ◌-◌, take, drop, sym, ap, ◌∙◌, arith}
use Rattle.areas.proofs.Cuts.{take_to_end}
use Rattle.areas.proofs.cutting.cut.Goals as goal

pub returns-then-from-end : goal.returns-then-from-end
returns-then-from-end c = take_to_end _ _ _ _ c.min-end.ensures

pub returns-else-from-end : goal.returns-else-from-end
returns-else-from-end c =
    let none : c.min-end.result - c.args.from ≡ 0 = omega arith in
    sym (ap (λ k. take k (drop c.args.from c.args.bytes.now)) none) ∙ take_to_end _ _ _ _ c.min-end.ensures
