use Rattle.std.proofs.Common.{ℕ, List, sym, ◌∙◌, subst, rules}
use Rattle.std.proofs.lemmas.Result.{err_from_is_err_and}
use Rattle.message.specs.declared.fault.MessageFault.{MessageFault}
use Rattle.token.specs.declared.parts.TokenFault.TheVariants.{Info as InInfo}
use Rattle.message.specs.Lies.{SignerLies}
use Rattle.message.proofs.Lying.{file_lies}
use Rattle.message.proofs.Made.{mapped_ok, mapped_told}
use Rattle.stamp_model.specs.Tokens.{token_settings}
use Rattle.token.proofs.Holding.{octets_of_lem, octets_there, no_info, token_at, signer_found, signer_there, signers_moved}
use Rattle.token.proofs.tokens.read_token.Goals as goal

pub unreachable-requires : goal.unreachable-requires
unreachable-requires c =
    let w = c.in_ok-message.ensures in
    octets_there c.args.token.now w.0 c.in_ok-message.message (octets_of_lem c.args.levels c.args.token.now w.0 w.1.formed) w.2 c.in_default.ensures

pub unreachable-requires-in_default-find_signer : goal.unreachable-requires-in_default-find_signer
unreachable-requires-in_default-find_signer c =
    let w = c.in_ok-message.ensures in
    let l = file_lies token_settings c.args.levels c.args.token.now w.0 w.1.formed c.in_ok-message.message w.2 in
    let i = c.inside.ensures in
    let s = signers_moved l.levels c.args.token.now c.inside.result.bytes.now _ _ _ _ w.0.signers (sym i.0) (sym i.1) (sym i.2) l.signers in
    signer_there c.inside.result.at w.0.signers w.1.formed.shape.count (c.in_default-find_signer.ensures l.levels w.0.signers s)

pub returns-in_err-info : goal.returns-in_err-info
returns-in_err-info c =
    let w = c.in_ok-message.ensures in
    let p = err_from_is_err_and c.from_residual-in_err-info.result c.from_residual-in_err-info.ensures.1 in
    let m = mapped_told (λ (fault : MessageFault). InInfo c.in-Some.octets.body fault) c.read_info.result c.map_err.result c.in_err-info.field-0.0 c.map_err.ensures.cases c.in_err-info.was
    (λ fault told k. search rules) in
    rw (p.1, p.2, m.2) (no_info c.args.levels c.args.token.now c.contents.result.now c.in_ok-message.message c.in-Some.octets m.0 w
    c.in-Some.ensures c.contents.ensures (rw m.1 at c.read_info.ensures))

pub returns : goal.returns
returns c =
    let q = mapped_ok _ c.read_info.result c.map_err.result c.in_ok-info.info c.map_err.ensures.cases c.in_ok-info.was in
    let w = c.in_ok-message.ensures in
    let l = file_lies token_settings c.args.levels c.args.token.now w.0 w.1.formed c.in_ok-message.message w.2 in
    let i = c.inside.ensures in
    let s = signers_moved l.levels c.args.token.now c.inside.result.bytes.now _ _ _ _ w.0.signers (sym i.0) (sym i.1) (sym i.2) l.signers in
    let n = signer_found l.levels c.inside.result.bytes.now c.inside.result.at c.inside.result.end w.0.signers c.in-Some-find_signer.signer w.1.formed.shape.count s
    (c.in-Some-find_signer.ensures l.levels w.0.signers s) in
    token_at c.args.levels c.args.token.now c.contents.result.now c.in_ok-message.message c.in-Some.octets c.in-Some-find_signer.signer c.in_ok-info.info w
    c.in-Some.ensures c.contents.ensures (rw q at c.read_info.ensures)
    (n.0, n.1, subst (λ (x : List ℕ). SignerLies x c.in-Some-find_signer.signer n.0) i.0 n.2, n.3 ∙ i.1 ∙ l.from)
