use Rattle.index.proofs.Areas.{overlay_put}
use Rattle.index.proofs.putting.put.Goals as goal

pub returns : goal.returns
returns c = overlay_put c.args.area.now c.put.new.area c.args.bytes.now c.args.at c.put.result c.put.ensures c.requires
