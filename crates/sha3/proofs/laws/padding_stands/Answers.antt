use Rattle.sha3.proofs.Endings.{padded_bitwise, padded_whole}
use Rattle.sha3.proofs.laws.padding_stands.Goals as goal

pub returns : goal.returns
returns c = record { bits = padded_bitwise; whole = padded_whole }
