use Rattle.std.proofs.Common.{ℕ, List, ◌++◌, length, arith}
use Rattle.areas.specs.Pieces.{joined}
use Rattle.grow.proofs.Overlays.{filled_by_two}
use Rattle.grow.proofs.Inserts.{at_within, grown_least, grown_stale, grown_wrapped}
use Rattle.grow.proofs.file.GrowingFile.insert.Goals as goal

pub open_gap-requires : goal.open_gap-requires
open_gap-requires c =
    let p = c.requires.spot in
    let new : List ℕ = c.args.header.now ++ joined c.args.pieces.now in
    record {
      within = at_within c.args.self.now _ _ new p.0 p.1 p.2 p.3;
      room = omega (arith, c.requires.size, grown_least c.args.self.now _ _ new p.0 p.1 p.2 p.3, p.4.room);
    }

pub rewrap-requires : goal.rewrap-requires
rewrap-requires c =
    let (fs, pre, post, s, fit) = c.requires.spot in
    let new : List ℕ = c.args.header.now ++ joined c.args.pieces.now in
    let g = c.args.self.now in
    let put = filled_by_two g.buffer.now _ _ _ g.end c.args.at _ _ c.args.size c.args.header.now (joined c.args.pieces.now) (at_within g _ _ new fs pre post s) g.within
    (omega (arith, c.requires.size, grown_least g _ _ new fs pre post s, fit.room, c.open_gap.ensures.same_buffer.room)) (omega (arith, c.put-behind.auto.area)) c.requires.size
    c.open_gap.ensures.parted c.put-behind.ensures c.put_all.ensures in
    record {
      path = (
        fs,
        length (pre ++ post),
        pre ++ (new ++ post),
        grown_stale g _ _ new fs pre post s _ _ _ put c.requires.size c.open_gap.ensures.end,
        record { short = fit.short; room = omega (arith, fit.room, c.open_gap.ensures.same_buffer.room, c.put-behind.auto.area, c.put_all.auto.area) },
      );
    }

pub returns-clause-wrapped : goal.returns-clause-wrapped
returns-clause-wrapped c fs pre post s =
    let p = c.requires.spot in
    let new : List ℕ = c.args.header.now ++ joined c.args.pieces.now in
    let g = c.args.self.now in
    let put = filled_by_two g.buffer.now _ _ _ g.end c.args.at _ _ c.args.size c.args.header.now (joined c.args.pieces.now) (at_within g _ _ new fs pre post s) g.within
    (omega (arith, c.requires.size, grown_least g _ _ new p.0 p.1 p.2 p.3, p.4.room, c.open_gap.ensures.same_buffer.room)) (omega (arith, c.put-behind.auto.area)) c.requires.size
    c.open_gap.ensures.parted c.put-behind.ensures c.put_all.ensures in
    grown_wrapped g _ _ new fs pre post s
    (c.rewrap.ensures.wrapped fs (length (pre ++ post)) (pre ++ (new ++ post)) (grown_stale g _ _ new fs pre post s _ _ _ put c.requires.size c.open_gap.ensures.end))
    put
