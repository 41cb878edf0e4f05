use Rattle.std.proofs.Common.{sym, ◌∙◌, rules}
use Rattle.std.proofs.lemmas.Result.{err_from_is_err_and}
use Rattle.message.specs.declared.fault.MessageFault.{MessageFault}
use Rattle.message.proofs.Made.{mapped_ok, mapped_from, mapped_told}
use Rattle.stamp.specs.declared.parts.StampFault.TheVariants.{Index as InIndex}
use Rattle.stamp.proofs.Holding.{uncarried, misindexed, stamp_at}
use Rattle.stamp.proofs.stamps.read_stamp.Goals as goal

pub returns-in_err-span : goal.returns-in_err-span
returns-in_err-span c =
    let p = err_from_is_err_and c.from_residual-in_err-span.result c.from_residual-in_err-span.ensures.1 in
    let m = mapped_from _ c.read_carried.result c.map_err.result c.in_err-span.field-0.0 c.map_err.ensures.cases c.in_err-span.was in
    rw (p.1, p.2, m.2) (uncarried c.args.token.now c.in_ok-parts.parts c.in_ok-parts.ensures m.0 (sym m.1 ∙ c.read_carried.ensures))

pub returns-in_err-entries : goal.returns-in_err-entries
returns-in_err-entries c =
    let q = mapped_ok _ c.read_carried.result c.map_err.result c.in_ok-span.span c.map_err.ensures.cases c.in_ok-span.was in
    let p = err_from_is_err_and c.from_residual-in_err-entries.result c.from_residual-in_err-entries.ensures.1 in
    let m = mapped_told (λ (fault : MessageFault). InIndex c.in_ok-span.span.start fault) c.read_index_bytes.result c.map_err-2.result c.in_err-entries.field-0.0 c.map_err-2.ensures.cases c.in_err-entries.was
    (λ fault told k. search rules) in
    rw (p.1, p.2, m.2) (misindexed c.args.token.now c.in_ok-parts.parts c.in_ok-parts.ensures c.in_ok-span.span c.whole.result.now m.0
    (sym q ∙ c.read_carried.ensures) c.whole.ensures (rw m.1 at c.read_index_bytes.ensures))

pub returns : goal.returns
returns c =
    let q = mapped_ok _ c.read_carried.result c.map_err.result c.in_ok-span.span c.map_err.ensures.cases c.in_ok-span.was in
    let i = mapped_ok _ c.read_index_bytes.result c.map_err-2.result c.in_ok-entries.entries c.map_err-2.ensures.cases c.in_ok-entries.was in
    stamp_at c.args.token.now c.in_ok-parts.parts c.in_ok-parts.ensures c.in_ok-span.span c.whole.result.now c.in_ok-entries.entries
    (sym q ∙ c.read_carried.ensures) c.whole.ensures (rw i at c.read_index_bytes.ensures)
