use Rattle.std.proofs.Common.{◌≡◌}
use Rattle.sha3.specs.Keccak.{rounds}
use Rattle.sha3.specs.States.{lanes}
use Rattle.sha3.specs.Turned.{righted}
use Rattle.sha3.proofs.permutation.permute.Given as goal

abbrev pub invariant-loop-constant : goal.invariant-loop-constant
invariant-loop-constant l = righted (lanes l.t) ≡ rounds l.constant-index (righted (lanes l.initial.t))
