use Rattle.std.proofs.Common.{sym, refl, ap, ◌∙◌, subst}
use Rattle.der.specs.declared.reader.Reader.{Reader}
use Rattle.cms.specs.Records.{signer_of, signer_stop}
use Rattle.fields.specs.Runs.{run_of}
use Rattle.fields.proofs.Runs.{lying_on, lying_end}
use Rattle.rules.specs.Attributes.{first_broken_of}
use Rattle.rules.proofs.Lying.{SignerFits, People, signers_lying, broken_found, broken_missed}
use Rattle.rules.proofs.signers.first_broken.Goals as goal

pub loop-signer-init : goal.loop-signer-init
loop-signer-init c = (
  tt,
  tt,
  (λ levels ss expected r e.
      let file = c.args.signers.bytes.now in
      let at = c.args.signers.at in
      let end = c.args.signers.end in
      let same = ap (λ run. run.reader) c.into_iter-signer-iterator.ensures.into_iter_gives ∙ c.of-signer-items.ensures in
      (at, ss, subst (λ (reader : Reader). People levels file end at ss (run_of signer_of signer_stop reader)) (sym same) (signers_lying levels file end at ss r), refl)),
)

pub returns-in-Some-broken_by : goal.returns-in-Some-broken_by
returns-in-Some-broken_by c = λ levels ss expected r e.
    let file = c.args.signers.bytes.now in
    let left = c.loop-signer.invariant.2 levels ss expected r e in
    let t = lying_on (SignerFits levels file) signer_stop left.0 left.1 c.in-Some.signer _ _ c.in-Some.ensures.steps left.2 in
    broken_found expected levels file left.0 left.1 c.in-Some.signer _ t c.in-Some-broken_by.place (c.in-Some-broken_by.ensures _ left.0 t.first expected t.fits.there e) ∙ sym left.3

pub loop-signer-preserved : goal.loop-signer-preserved
loop-signer-preserved c = (
  tt,
  tt,
  (λ levels ss expected r e.
      let file = c.args.signers.bytes.now in
      let left = c.loop-signer.invariant.2 levels ss expected r e in
      let t = lying_on (SignerFits levels file) signer_stop left.0 left.1 c.in-Some.signer _ _ c.in-Some.ensures.steps left.2 in
      let m = broken_missed expected levels file left.0 left.1 c.in-Some.signer _ t (c.in_default.ensures _ left.0 t.first expected t.fits.there e) in
      (signer_stop c.in-Some.signer, t.tail, t.others, left.3 ∙ m)),
)

pub returns : goal.returns
returns c = λ levels ss expected r e.
    let left = c.loop-signer.invariant.2 levels ss expected r e in
    sym (left.3 ∙ ap (first_broken_of expected left.0) (lying_end (SignerFits levels c.args.signers.bytes.now) signer_stop left.0 left.1 _ c.in-None.ensures.steps.0 left.2))
