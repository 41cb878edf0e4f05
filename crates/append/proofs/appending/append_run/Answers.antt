use Rattle.append.proofs.Held.{held_changed}
use Rattle.append.proofs.Filing.{place_held}
use Rattle.append.proofs.appending.append_run.Goals as goal

pub append-requires : goal.append-requires
append-requires c =
    let (f, a, at, joins) = c.requires.file in
    let h = place_held f at c.args.list a joins (c.place_of.ensures f at.parts) in
    record { list = (h.fs, h.before, h.after, h.old, h.list) }

pub returns-clause-changed : goal.returns-clause-changed
returns-clause-changed c f a at joins e = held_changed (place_held f at c.args.list a joins (c.place_of.ensures f at.parts)) _ _ _ _ e c.append.ensures.changed
