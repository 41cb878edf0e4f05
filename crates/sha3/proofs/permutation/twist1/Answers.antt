use Rattle.std.proofs.Common.{rules}
use Rattle.sha3.proofs.Twists.{five_lanes, and_ptp, or_ppt, or_tpp, or_tpt}
use Rattle.sha3.proofs.permutation.twist1.Goals as goal

pub returns : goal.returns
returns c =
    five_lanes
    (or_tpt c.args.p.x0 c.args.p.x1 c.args.p.x2 (search rules) (search rules) (search rules))
    (and_ptp c.args.p.x1 c.args.p.x2 c.args.p.x3 (search rules) (search rules) (search rules))
    (or_tpp c.args.p.x2 c.args.p.x3 c.args.p.x4 (search rules) (search rules) (search rules))
    (or_ppt c.args.p.x3 c.args.p.x4 c.args.p.x0 (search rules) (search rules) (search rules))
    (and_ptp c.args.p.x4 c.args.p.x0 c.args.p.x1 (search rules) (search rules) (search rules))
