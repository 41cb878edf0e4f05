use Rattle.std.proofs.Common.{◌+◌, ◌≤◌, arith}
use Rattle.sha256.proofs.Schedule.{round_step, slid_four, word_step, word_moved}
use Rattle.sha256.proofs.rounds.four_rounds.Goals as goal

pub returns : goal.returns
returns g c = λ s block h.
    let n = g.row.I in
    let low : n + 4 ≤ 64 = c.requires in
    let w = h.slid in
    let first = word_moved block (n + 0) n _ (w 0 (omega arith)) (omega arith) in
    let v1 = round_step s block n (n + 1) _ _ _ (omega arith) (omega arith) h.worked first c.turn-v1.ensures in
    let v2 = round_step s block (n + 1) (n + 2) _ _ _ (omega arith) (omega arith) v1 (w 1 (omega arith)) c.turn-v2.ensures in
    let v3 = round_step s block (n + 2) (n + 3) _ _ _ (omega arith) (omega arith) v2 (w 2 (omega arith)) c.turn-v3.ensures in
    let v4 = round_step s block (n + 3) (n + 4) _ _ _ (omega arith) (omega arith) v3 (w 3 (omega arith)) c.turn-v4.ensures in
    let x0 = word_step block n (n + 16) _ _ _ _ _ (omega arith) (w 14 (omega arith)) (w 9 (omega arith)) (w 1 (omega arith)) first c.mix-x0.ensures in
    let x1 = word_step block (n + 1) (n + 17) _ _ _ _ _ (omega arith) (word_moved block (n + 15) (n + 1 + 14) _ (w 15 (omega arith)) (omega arith)) (word_moved block (n + 10) (n + 1 + 9) _ (w 10 (omega arith)) (omega arith)) (word_moved block (n + 2) (n + 1 + 1) _ (w 2 (omega arith)) (omega arith)) (w 1 (omega arith)) c.mix-x1.ensures in
    let x2 = word_step block (n + 2) (n + 18) _ _ _ _ _ (omega arith) (word_moved block (n + 16) (n + 2 + 14) _ x0 (omega arith)) (word_moved block (n + 11) (n + 2 + 9) _ (w 11 (omega arith)) (omega arith)) (word_moved block (n + 3) (n + 2 + 1) _ (w 3 (omega arith)) (omega arith)) (w 2 (omega arith)) c.mix-x2.ensures in
    let x3 = word_step block (n + 3) (n + 19) _ _ _ _ _ (omega arith) (word_moved block (n + 17) (n + 3 + 14) _ x1 (omega arith)) (word_moved block (n + 12) (n + 3 + 9) _ (w 12 (omega arith)) (omega arith)) (word_moved block (n + 4) (n + 3 + 1) _ (w 4 (omega arith)) (omega arith)) (w 3 (omega arith)) c.mix-x3.ensures in
    record { worked = v4; slid = slid_four block c.args.from.window n _ _ _ _ w x0 x1 x2 x3 }
