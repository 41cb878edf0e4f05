use Rattle.std.proofs.Common.{◌≡◌, ◌+◌, ◌%◌, ◌^◌, ◌<◌, ◌≤◌, ◌-◌, ◌++◌, length, sym, refl, subst, arith, mod-eq_of_lt, rules}
use Rattle.block_stream.specs.Streams.{Holds}
use Rattle.block_stream.proofs.Holding.{holds_straight, holds_open, holds_closed}
use Rattle.block_stream.proofs.stream.Stream.absorb.Goals.{then-bytes-room, else-bytes-room+then-used-eq0, else-bytes-room+else-used-eq0}
use Rattle.block_stream.proofs.stream.Stream.absorb.Goals as goal

pub returns-clause-holds : goal.returns-clause-holds
returns-clause-holds g c = λ xs h few.
    let s = c.args.self.now in
    let ys = c.args.bytes.now in
    let n = g.row.N in
    let counted = h.counted in
    let below : s.count + length ys < 2 ^ 64 = omega arith in
    let count : (s.count + length ys) % 2 ^ 64 ≡ s.count + length ys = mod-eq_of_lt below in
    let width : length s.buffer ≡ n = search rules in
    subst (λ m. Holds n g.S.BlockState.stands (record { state = c.if-bytes-room.self.state; buffer = c.if-bytes-room.self.buffer; count = m }) (xs ++ ys)) (sym count) (elim c.if-bytes-room.branch [
      | then-bytes-room w ↦
          let small : s.count % n + length ys < n = omega (arith, w.if-bytes-room.true) in
          rw w.self-is (holds_open n g.S.BlockState.stands s xs ys (s.count % n) refl width h w.put_few.new.area _ small w.put_few.ensures)
      | else-bytes-room+then-used-eq0 w ↦
          rw w.self-is (holds_straight n g.S.BlockState.stands s xs ys (s.count % n) refl width h _ w.put.new.area _ w.take_blocks-left.new.state
          g.met.S.BlockState.sized.0 w.if-used-eq0.true w.take_blocks-left.ensures.left w.put.ensures w.take_blocks-left.ensures.taken)
      | else-bytes-room+else-used-eq0 w ↦
          let low : s.count % n < n = omega (arith, g.met.S.BlockState.sized.0) in
          let fits : n - s.count % n ≤ length ys = w.if-bytes-room.false in
          rw w.self-is (holds_closed n g.S.BlockState.stands s xs ys (s.count % n) refl width h
          _ _ _ w.put_few-else-used-eq0.new.area w.put-else-used-eq0.new.area _ _ w.take_blocks.new.state w.take_blocks-left-else-used-eq0.new.state low fits
          w.split_at.ensures.front w.split_at.ensures.back w.put_few-else-used-eq0.ensures w.take_blocks-left-else-used-eq0.ensures.left w.put-else-used-eq0.ensures
          w.take_blocks.ensures.taken w.take_blocks-left-else-used-eq0.ensures.taken)
    ])
