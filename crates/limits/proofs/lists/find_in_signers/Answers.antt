use Rattle.std.proofs.Common.{◌≡◌, ℕ, ◌-◌, List, Result, sym, ap, ◌∙◌}
use Rattle.cms.specs.declared.located.Signer.{Signer}
use Rattle.cms.specs.Records.{signer_of, signer_stop}
use Rattle.limits.specs.Past.{left_of, attributes_past, signers_past}
use Rattle.limits.proofs.Behind.{past_all, past_done, past_none, past_found, past_on}
use Rattle.limits.proofs.lists.find_in_signers.Goals as goal

-- the bytes and the end are those that the reader began with
same_signer : (file bytes : List ℕ) (at stop end : ℕ) (r : Result Signer ℕ) → bytes ≡ file → stop ≡ end → r ≡ signer_of bytes at stop → r ≡ signer_of file at end
same_signer file bytes at stop end r p q e = e ∙ ap (λ (x : List ℕ). signer_of x at stop) p ∙ ap (signer_of file at) q

pub loop-init : goal.loop-init
loop-init c =
    let i = c.inside-reader.ensures in
    (i.0, i.2, past_all signer_of signer_stop attributes_past c.args.file.now c.args.signers.field.end c.args.limit c.args.signers.field.body ∙ ap (λ (at : ℕ). signers_past (c.args.limit - 0) c.args.file.now at c.args.signers.field.end) (sym i.1))

pub returns-in_default : goal.returns-in_default
returns-in_default c =
    let inv = c.loop.invariant in
    sym (inv.2 ∙ past_none signer_of signer_stop attributes_past c.args.file.now c.args.signers.field.end c.args.limit c.loop.counter c.loop.reader.at _ c.loop-test.true
    (same_signer _ _ _ _ _ _ inv.0 inv.1 c.in_default.ensures.value))

pub returns-in-Some : goal.returns-in-Some
returns-in-Some c =
    let inv = c.loop.invariant in
    sym (inv.2 ∙ past_found signer_of signer_stop attributes_past c.args.file.now c.args.signers.field.end c.args.limit c.loop.counter c.loop.reader.at _ _ c.loop-test.true
    (same_signer _ _ _ _ _ _ inv.0 inv.1 c.in-Ok.ensures.value)
    (sym c.in-Some.ensures))

pub loop-preserved : goal.loop-preserved
loop-preserved c =
    let inv = c.loop.invariant in
    let read = c.read_signer.ensures in
    let same = read.bytes ∙ inv.0 in (
      same,
      read.end ∙ inv.1,
      inv.2 ∙ past_on signer_of signer_stop attributes_past c.args.file.now c.args.signers.field.end c.args.limit c.loop.counter c.loop.reader.at _ _ c.loop-test.true
          (same_signer _ _ _ _ _ _ inv.0 inv.1 c.in-Ok.ensures.value)
          (sym c.in_default-find_in_signer.ensures) c.in-Ok.ensures.moved,
    )

pub returns : goal.returns
returns c =
    let inv = c.loop.invariant in
    c.place_left.ensures ∙ ap (left_of c.loop.reader.at) inv.1
    ∙ sym (inv.2 ∙ past_done signer_of signer_stop attributes_past c.args.file.now c.args.signers.field.end c.args.limit c.loop.counter c.loop.reader.at c.loop-test.false)
