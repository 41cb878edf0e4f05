use Rattle.std.proofs.Common.{arith}
use Rattle.der.proofs.Decided.{walked_first}
use Rattle.der.proofs.walking.walk_first.Goals as goal

pub returns : goal.returns
returns c = walked_first c.args.levels c.args.bytes.now (λ i. omega (arith, c.type_inv.bytes i)) c.walk_element.result c.walk_element.ensures
