use Rattle.std.proofs.Common.{◌≡◌, [], length, ap, ◌∙◌, arith}
use Rattle.std.proofs.lemmas.List.{length-append}
use Rattle.content.specs.Segments.{joined_in}
use Rattle.content.proofs.Joining.{Turn, turn, no_turn}
use Rattle.content.proofs.segments.count_bytes.Goals as goal

-- the segment of a turn
turned : (c : goal.After-contents) → Turn c.args.segments.bytes.now c.loop-segment.reader.at c.args.segments.end c.contents.result.now c.next.new.self.at
turned c =
    let reads = c.in-Ok.ensures.reads in
    turn _ _ _ _ _ _ _ _ _ c.loop-segment.invariant.0 c.loop-segment.invariant.1 reads.1 reads.0 c.contents.ensures

pub overflow_add-count : goal.overflow_add-count
overflow_add-count c =
    let t = turned c in
    record { fits = omega (arith, t.ahead, t.within, c.loop-segment.invariant.2, c.ranges.segments.0) }

pub loop-segment-preserved : goal.loop-segment-preserved
loop-segment-preserved c =
    let inv = c.loop-segment.invariant in
    let stands = c.next.ensures.stands in
    let t = turned c in (
      stands.0 ∙ inv.0,
      stands.1 ∙ inv.1,
      omega (arith, t.ahead, inv.2),
      omega (arith, inv.3, ap length t.joined, length-append c.contents.result.now (joined_in c.args.segments.bytes.now c.next.new.self.at c.args.segments.end)),
    )

pub returns : goal.returns
returns c =
    let inv = c.loop-segment.invariant in
    let none : joined_in c.args.segments.bytes.now c.loop-segment.reader.at c.args.segments.end ≡ [] =
    no_turn c.args.segments.bytes.now _ c.loop-segment.reader.at c.args.segments.end _ _ inv.0 inv.1 c.in_default.ensures.reads.read in
    omega (arith, inv.3, ap length none)
