use Rattle.std.proofs.Common.{arith}
use Rattle.std.proofs.lemmas.Bool.{ltb-true, ltb-false, eqb-true}
use Rattle.der.proofs.Heads.{at_zero}
use Rattle.der.proofs.header.read_length.Goals as goal

pub returns-in-130 : goal.returns-in-130
returns-in-130 c =
    at_zero c.args.tag c.args.bytes.now (omega (arith, ltb-true, ltb-false)) (omega (arith, eqb-true)) (omega (arith, eqb-true))
    (omega (arith, c.type_inv.bytes 2))
