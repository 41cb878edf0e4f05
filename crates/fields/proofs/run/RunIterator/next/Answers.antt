use Rattle.std.proofs.Common.{length, sym, ap, ◌∙◌, rules}
use Rattle.fields.proofs.Runs.{run_reads}
use Rattle.fields.proofs.run.RunIterator.next.Goals as goal

pub returns-clause-steps : goal.returns-clause-steps
returns-clause-steps g c =
    run_reads g.T.Located.reading g.T.Located.stop c.args.self.now.reader c.read.new.reader c.read.result c.in_ok-part.part c.read.ensures
    (sym c.ok.ensures.value ∙ c.in_ok-part.was)

pub returns-clause-goes : goal.returns-clause-goes
returns-clause-goes g c = let shorter = ap length (returns-clause-steps g c) in search rules
