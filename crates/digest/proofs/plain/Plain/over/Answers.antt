use Rattle.std.proofs.Common.{◌≤◌, length, arith, take_all}
use Rattle.digest.proofs.plain.Plain.over.Goals as goal

pub returns : goal.returns
returns c =
    let fits : length c.args.bytes.now ≤ 8388608 = omega arith in
    (fits, take_all 8388608 c.args.bytes.now fits)
