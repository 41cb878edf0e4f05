use Rattle.std.proofs.Common.{◌∙◌}
use Rattle.archive.proofs.Telling.{counted}
use Rattle.archive.proofs.reading.tell.Goals as goal

pub returns : goal.returns
returns c = λ f levels p s l t.
    let form = c.form_of.ensures levels p s t in
    let policy = c.has_policy.ensures levels p s t in
    let count = l.count in
    let cs = c.count_of.ensures ∙ counted l.levels _ _ f.certificates l.certificates in
    let rs = c.count_of-2.ensures ∙ counted l.levels _ _ f.revocations l.revocations in
    λ i. record { form = form i; policy = policy i; signers = count i; certificates = cs i; revocations = rs i }
