use Rattle.std.proofs.Common.{◌≡◌, length, drop, sym, ap, ◌∙◌, subst, arith}
use Rattle.fields.specs.Reads.{broke}
use Rattle.message.specs.declared.fault.MessageFault.{MessageFault}
use Rattle.message.proofs.Made.{mapped_err, split_file, breaks_at}
use Rattle.token.specs.Grammar.{first_info_break}
use Rattle.token.specs.Records.{info_of}
use Rattle.token.specs.Told.{ToldAt, Untold}
use Rattle.token.proofs.Links.{link_whole}
use Rattle.token.proofs.Telling.{told_at}
use Rattle.token.proofs.infos.read_info.Goals as goal

pub returns : goal.returns
returns c =
    let bytes = c.args.contents.now in
    let n = c.in_ok-walk_first.field-0 in
    let s = c.in_ok-walk_first.ensures.meaning in
    let read : c.read_parts.result ≡ info_of bytes 0 (length bytes) = cc (c.read_parts.ensures, c.new.ensures.0, c.new.ensures.1, c.new.ensures.2) in
    mapped_err (ToldAt bytes) (Untold bytes) c.read_parts.result c.map_err.result c.map_err.ensures.cases
    (λ parts q. told_at bytes n s parts (sym q ∙ read))
    (λ p fault q f.
    subst (λ (x : MessageFault). Untold bytes x) (sym f)
    (breaks_at first_info_break 32 bytes n s p
    (sym (link_whole bytes 0 (length bytes) s.0 (drop n bytes) 32 s.1 (omega arith) (split_file 32 bytes n s)) ∙ ap broke (sym read ∙ q))))
