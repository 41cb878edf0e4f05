use Rattle.append.proofs.Held.{held_fits}
use Rattle.append.proofs.Filing.{place_held}
use Rattle.append.proofs.appending.measure_run.Goals as goal

pub measure-requires : goal.measure-requires
measure-requires c =
    let (f, a, at, joins) = c.requires.file in
    let h = place_held f at c.args.list a joins (c.place_of.ensures f at.parts) in
    record { list = (h.fs, h.before, h.after, h.old, h.list) }

pub returns : goal.returns
returns c f a at joins e = held_fits (place_held f at c.args.list a joins (c.place_of.ensures f at.parts)) _ _ _ e c.measure.ensures
