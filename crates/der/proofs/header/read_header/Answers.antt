use Rattle.std.proofs.Common.{arith}
use Rattle.std.proofs.lemmas.List.{take_rest}
use Rattle.std.proofs.lemmas.Bool.{ltb-true, ltb-false, eqb-true}
use Rattle.der.proofs.Heads.{at_tag}
use Rattle.der.proofs.header.read_header.Goals as goal

pub returns-in-len1-up-2 : goal.returns-in-len1-up-2
returns-in-len1-up-2 c =
    at_tag c.args.bytes.now _ c.read_length.result (omega (arith, ltb-true, ltb-false, eqb-true)) c.if-tag-eq31.false
    (take_rest c.args.bytes.now 1) c.read_length.ensures
