use Rattle.archive.proofs.Telling.{served}
use Rattle.archive.proofs.reading.read.Goals as goal

pub returns : goal.returns
returns c = served c.args.buffer.now c.args.n c.args.signer c.in_ok-opened.opened c.tell.result c.in_ok-opened.ensures c.tell.ensures
