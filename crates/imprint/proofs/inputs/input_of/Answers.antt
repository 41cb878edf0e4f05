use Rattle.std.proofs.Common.{refl}
use Rattle.imprint.specs.declared.pieces.Input.{Input}
use Rattle.imprint.proofs.Finding.{found_input}
use Rattle.imprint.proofs.inputs.input_of.Goals as goal

pub returns-clause-meaning : goal.returns-clause-meaning
returns-clause-meaning c =
    let input : Input = record { content_type = c.whole.result; content_digest = c.args.content_digest; fields = c.cut.result; index = c.args.index } in
    found_input _ _ _ _ _ input (record { content_type = c.whole.ensures; content = refl; fields = c.cut.ensures; carried = refl })
