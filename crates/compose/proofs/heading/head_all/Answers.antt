use Rattle.std.proofs.Common.{sym, refl}
use Rattle.compose.proofs.Sizes.{inner_long}
use Rattle.compose.specs.Heads.{identifier_bytes}
use Rattle.compose.proofs.heading.head_all.Goals as goal

pub returns-in_err-inner : goal.returns-in_err-inner
returns-in_err-inner c = rw c.from_residual.ensures (inner_long c.args.front c.args.six c.args.index c.in_err-inner.ensures)

pub returns-in_err-outer : goal.returns-in_err-outer
returns-in_err-outer c =
    rw c.from_residual-in_err-outer.ensures
    (λ f s x p q r. c.in_err-outer.ensures identifier_bytes f s x refl p (sym (c.in_ok-inner.ensures s x q r).total))

pub returns : goal.returns
returns c = λ f s x p q r. record {
  inner = c.in_ok-inner.ensures s x q r;
  outer = c.in_ok-outer.ensures identifier_bytes f s x refl p (sym (c.in_ok-inner.ensures s x q r).total);
}
