use Rattle.std.proofs.Common.{arith}
use Rattle.archive.specs.Accepted.{Fits}
use Rattle.archive.proofs.Opening.{opens_by}
use Rattle.archive.proofs.gate.open_file.Goals as goal

pub returns : goal.returns
returns c =
    let fits : Fits c.args.buffer.now c.args.n = record { some = omega arith; short = omega arith; there = omega arith } in
    opens_by c.args.buffer.now c.args.n c.accept.result fits c.accept.ensures
