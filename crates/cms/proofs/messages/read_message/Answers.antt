use Rattle.std.proofs.Common.{ap, ◌∙◌}
use Rattle.fields.specs.Reads.{broke}
use Rattle.fields.proofs.Steps.{gives_cases}
use Rattle.cms.proofs.MessageLinks.{link_message}
use Rattle.cms.proofs.RecordPlaces.{message_lies}
use Rattle.cms.proofs.messages.read_message.Goals as goal

pub returns : goal.returns
returns c =
    let read = c.read_parts.ensures in
    let settings = c.args.settings in
    let bytes = c.args.reader.bytes.now in
    let at = c.args.reader.at in
    let end = c.args.reader.end in
    record {
      computed = read;
      meaning = λ t surplus levels v l e. ap broke read ∙ link_message settings bytes at end t surplus levels v l e;
      places = λ t surplus levels v l e. gives_cases _ _ _ read (message_lies settings bytes at end t surplus levels v l e);
    }
