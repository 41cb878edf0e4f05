use Rattle.std.proofs.Common.{◌+◌, ◌<◌, length, arith}
use Rattle.compose.proofs.Sizes.{lead_long, of_these}
use Rattle.compose.proofs.pieces.headers_for.Goals as goal

pub returns-then-front-gt-MOST : goal.returns-then-front-gt-MOST
returns-then-front-gt-MOST c =
    let h : 65535 < length c.args.leads.front.now + length c.args.leads.six.now = omega arith in
    lead_long c.args.leads.front.now c.args.leads.six.now c.args.index.now h

pub returns : goal.returns
returns c = of_these c.args.leads.front.now c.args.leads.six.now c.args.index.now c.head_all.result c.head_all.ensures
