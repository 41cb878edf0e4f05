use Rattle.content.proofs.Lying.{content_served}
use Rattle.content.proofs.finding.content_of.Goals as goal

pub returns : goal.returns
returns c = record {
  computed = c.source_of.ensures;
  meaning = λ settings f levels k v e m. content_served f levels c.args.file.now c.args.message.now c.source_of.result v e m c.source_of.ensures;
}
