use Rattle.std.proofs.Common.{ap, ◌∙◌, sym}
use Rattle.std.proofs.lemmas.Iterator.Consumers.{YieldsList-from_first, nth_from_yields_List}
use Rattle.std.proofs.lemmas.Iterator.Adapters.{option_map_id}
use Rattle.fields.specs.Runs.{run_of}
use Rattle.cms.specs.Records.{signer_of, signer_stop}
use Rattle.rules.proofs.Lying.{get_number, signers_lying}
use Rattle.rules.proofs.signers.find_signer.Goals as goal

pub returns : goal.returns
returns c = λ levels ss r.
    let file = c.args.signers.bytes.now in
    let end = c.args.signers.end in
    let at = c.args.signers.at in
    let chain = YieldsList-from_first (λ x. x) (λ run. run_of signer_of signer_stop run.reader) _ (ap (run_of signer_of signer_stop) c.of.ensures) in
    sym (option_map_id c.nth.result) ∙ nth_from_yields_List c.nth.result c.nth.new.self c.args.number c.nth.ensures.ran chain
    ∙ get_number levels file end c.args.number at ss _ (signers_lying levels file end at ss r)
