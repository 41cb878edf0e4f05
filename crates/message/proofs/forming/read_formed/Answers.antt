use Rattle.std.proofs.Common.{sym, ap, ◌∙◌, subst}
use Rattle.fields.specs.Reads.{broke}
use Rattle.cms.specs.Grammar.{first_break}
use Rattle.cms.specs.Places.{message_at}
use Rattle.message.specs.declared.fault.MessageFault.{MessageFault}
use Rattle.message.specs.Formed.{FormedAt, Unformed}
use Rattle.message.proofs.Made.{mapped_err, break_read, place_read, breaks_at, formed_at}
use Rattle.message.proofs.forming.read_formed.Goals as goal

pub returns : goal.returns
returns c =
    let settings = c.args.settings in
    let levels = c.args.levels in
    let bytes = c.args.bytes.now in
    let n = c.in_ok-walk_first.field-0 in
    let s = c.in_ok-walk_first.ensures.meaning in
    let read = c.read_message in
    let b = break_read levels bytes n s c.new.result c.new.ensures read.result (first_break settings) read.ensures.meaning in
    mapped_err (FormedAt settings levels bytes) (Unformed settings levels bytes) read.result c.map_err.result c.map_err.ensures.cases
    (λ m q. formed_at settings levels bytes n s m (sym b ∙ ap broke q) (place_read levels bytes n s c.new.result c.new.ensures read.result message_at read.ensures.places m q))
    (λ p fault q f. subst (λ (x : MessageFault). Unformed settings levels bytes x) (sym f) (breaks_at (first_break settings) levels bytes n s p (sym b ∙ ap broke q)))
