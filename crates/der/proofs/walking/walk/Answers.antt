use Rattle.std.proofs.Common.{arith}
use Rattle.der.proofs.Decided.{walked}
use Rattle.der.proofs.walking.walk.Goals as goal

pub returns : goal.returns
returns c = walked c.args.levels c.args.bytes.now (λ i. omega (arith, c.type_inv.bytes i)) c.walk_elements.result c.walk_elements.ensures
