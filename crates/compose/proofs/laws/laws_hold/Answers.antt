use Rattle.compose.proofs.Encoding.{composed_is}
use Rattle.compose.proofs.Carrying.{composed_carries, composed_valid}
use Rattle.compose.proofs.laws.laws_hold.Goals as goal

pub returns : goal.returns
returns c = record { composed_is = composed_is; composed_carries = composed_carries; composed_valid = composed_valid }
