use Rattle.std.proofs.Common.{true, refl}
use Rattle.std.proofs.Output.{has_written_of_eq}
use Rattle.listing.proofs.Texts.{put_line, lines_all}
use Rattle.listing.proofs.outline.OutlineDisplay.fmt.Goals as goal

pub loop-line-preserved : goal.loop-line-preserved
loop-line-preserved g c plain =
    put_line g.W.Write.write_str_gives c.args.f.now c.loop-line.f c.writeln.new.self c.as_slice-line-items.result.now c.loop-line.line-index _ c.loop-line-test.true
    (c.loop-line.invariant plain) (c.in_ok-writeln.ensures.writes (c.loop-line.invariant plain).plain (refl {a = true}))

pub returns-clause-writes : goal.returns-clause-writes
returns-clause-writes g c plain ok =
    has_written_of_eq _ _ _ _ _
    (lines_all c.args.self.now.lines c.as_slice-line-items.result.now c.loop-line.line-index c.loop-line-test.false c.as_slice-line-items.ensures.value)
    (c.loop-line.invariant plain)
