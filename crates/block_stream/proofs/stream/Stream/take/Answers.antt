use Rattle.std.proofs.Common.{refl, arith}
use Rattle.block_stream.proofs.stream.Stream.take.Goals as goal

pub returns-clause-took : goal.returns-clause-took
returns-clause-took g c = λ xs h.
    let counted = h.counted in
    record {
      fits = λ few. (refl, c.absorb.ensures.holds xs h (omega arith));
      over = λ many. absurd (omega arith);
    }
