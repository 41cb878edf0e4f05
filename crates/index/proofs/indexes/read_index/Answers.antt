use Rattle.std.proofs.Common.{ap, ◌∙◌}
use Rattle.fields.specs.Reads.{broke}
use Rattle.fields.proofs.Steps.{gives_cases}
use Rattle.index.proofs.IndexLinks.{link_whole}
use Rattle.index.proofs.IndexPlaces.{whole_lies}
use Rattle.index.proofs.indexes.read_index.Goals as goal

pub returns : goal.returns
returns c =
    let read = c.read_parts.ensures in
    let bytes = c.args.reader.bytes.now in
    let at = c.args.reader.at in
    let end = c.args.reader.end in
    record {
      computed = read;
      meaning = λ t surplus levels v l e. ap broke read ∙ link_whole bytes at end t surplus levels v l e;
      places = λ t surplus levels v l e. gives_cases _ _ _ read (whole_lies bytes at end t surplus levels v l e);
    }
