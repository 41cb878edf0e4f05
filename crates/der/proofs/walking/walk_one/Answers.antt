use Rattle.std.proofs.lemmas.Result.{err_from_is_err_and}
use Rattle.der.proofs.Decided.{one_fault_told, one_by_end}
use Rattle.der.proofs.walking.walk_one.Goals as goal

pub returns-in_err-end : goal.returns-in_err-end
returns-in_err-end c =
    let p = err_from_is_err_and c.from_residual.result c.from_residual.ensures.1 in
    rw (p.1, p.2) (one_fault_told c.args.levels c.args.bytes.now c.in_err-end.field-0.0 c.in_err-end.ensures.meaning)

pub returns : goal.returns
returns c = one_by_end c.args.levels c.args.bytes.now c.in_ok-end.end c.nothing_behind.result c.in_ok-end.ensures.meaning c.nothing_behind.ensures
