use Rattle.std.proofs.Common.{◌≡◌, Some, None, ◌∙◌, arith}
use Rattle.std.proofs.lemmas.Result.{err_from_is_err_and}
use Rattle.archive.specs.declared.refusal.Refusal.TheVariants.{NoSigner}
use Rattle.archive.proofs.Opening.{signers_read, signer_opened, signer_missing}
use Rattle.archive.proofs.gate.open_signer.Goals as goal

pub returns-in_err-signer : goal.returns-in_err-signer
returns-in_err-signer c =
    let k = c.in_ok-message.ensures in
    let p = err_from_is_err_and c.from_residual-in_err-signer.result c.from_residual-in_err-signer.ensures.1 in
    let s = signers_read c.args.buffer.now c.args.n c.args.signer k.0 c.in_ok-message.message c.inside-signers.result k.1 k.2 c.inside-signers.ensures in
    let none : None ≡ c.find_signer.result = grind arith in
    let why : c.in_err-signer.field-0.0 ≡ NoSigner = grind arith in
    rw (p.1, p.2, why) (signer_missing c.args.buffer.now c.args.n c.args.signer k.0 c.in_ok-message.message c.inside-signers.result k.1 k.2 c.inside-signers.ensures
    (none ∙ c.find_signer.ensures s.0 k.0.signers s.1))

pub returns : goal.returns
returns c =
    let k = c.in_ok-message.ensures in
    let s = signers_read c.args.buffer.now c.args.n c.args.signer k.0 c.in_ok-message.message c.inside-signers.result k.1 k.2 c.inside-signers.ensures in
    let found : Some c.in_ok-signer.signer ≡ c.find_signer.result = grind arith in
    signer_opened c.args.buffer.now c.args.n c.args.signer k.0 c.in_ok-message.message c.inside-signers.result k.1 k.2 c.inside-signers.ensures c.in_ok-signer.signer
    (found ∙ c.find_signer.ensures s.0 k.0.signers s.1)
