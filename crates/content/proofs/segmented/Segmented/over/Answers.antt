use Rattle.std.proofs.Common.{◌≤◌, length, arith, take_all}
use Rattle.content.specs.Segments.{joined_of}
use Rattle.content.proofs.segmented.Segmented.over.Goals as goal

pub returns : goal.returns
returns c =
    let fits : length (joined_of c.args.segments) ≤ 8388608 = omega arith in
    (fits, take_all 8388608 (joined_of c.args.segments) fits)
