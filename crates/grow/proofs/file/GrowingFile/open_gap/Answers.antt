use Rattle.std.proofs.Common.{arith}
use Rattle.grow.proofs.Overlays.{parted, parted_none}
use Rattle.grow.proofs.file.GrowingFile.open_gap.Goals as goal

pub returns-then-size-gt0-clause-parted : goal.returns-then-size-gt0-clause-parted
returns-then-size-gt0-clause-parted c =
    parted c.args.self.now.buffer.now _ c.args.self.now.end c.args.at c.args.size c.requires.within c.requires.room c.copy_within.ensures.after

pub returns-else-size-gt0-clause-parted : goal.returns-else-size-gt0-clause-parted
returns-else-size-gt0-clause-parted c =
    parted_none c.args.self.now.buffer.now c.args.self.now.end c.args.at c.args.size c.requires.within (omega (arith, c.requires.room)) (omega (arith, c.if-size-gt0.false))
