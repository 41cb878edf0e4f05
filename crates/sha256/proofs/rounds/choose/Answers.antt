use Rattle.sha256.proofs.Bitwise.{choose_forms}
use Rattle.sha256.proofs.rounds.choose.Goals as goal

pub returns : goal.returns
returns c = choose_forms c.args.x c.args.y c.args.z c.ranges.x.fits c.ranges.y.fits c.ranges.z.fits
