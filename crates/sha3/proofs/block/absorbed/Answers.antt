use Rattle.std.proofs.Common.{ap, ◌∙◌}
use Rattle.sha3.specs.Keccak.{keccak}
use Rattle.sha3.specs.Sha3.{absorb}
use Rattle.sha3.proofs.block.absorbed.Goals as goal

pub returns : goal.returns
unfolding absorb
returns c = c.permute.ensures ∙ ap keccak c.mix.ensures
