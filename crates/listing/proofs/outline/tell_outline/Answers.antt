-- Tried without: the check does not find it.
use Rattle.std.proofs.Common.{Ok, Err}
use Rattle.std.proofs.lemmas.Result.{IfOk-weaker}
use Rattle.listing.proofs.outline.tell_outline.Goals as goal

pub returns-in-Ok : goal.returns-in-Ok
returns-in-Ok c = IfOk-weaker c.to_string.result _ _ (λ text e. (Ok c.in-Ok.outline, c.in-Ok.ensures, e)) c.to_string.ensures.ok

pub returns-in-Err-Refused : goal.returns-in-Err-Refused
returns-in-Err-Refused c =
    let refused = rw c.in-Err-Refused.field-0-is at c.in-Err-Refused.ensures in
    IfOk-weaker c.format.result _ _ (λ text e. (Err c.in-Err-Refused.refusal, refused, e)) c.format.ensures.ok
