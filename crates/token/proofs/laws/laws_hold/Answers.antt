use Rattle.token.proofs.Exact.{never_untold, token_never_both}
use Rattle.token.proofs.laws.laws_hold.Goals as goal

pub returns : goal.returns
returns c = record { never_untold = never_untold; never_both = token_never_both }
