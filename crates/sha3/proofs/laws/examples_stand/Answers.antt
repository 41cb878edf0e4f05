use Rattle.std.proofs.Common.{refl}
use Rattle.sha3.specs.Keccak.{C, D, θ, ρ, π, χ, ι, Rnd, rounds, keccak}
use Rattle.sha3.specs.Sha3.{word, absorb, chain, tail, padded, squeezed, sha3}
use Rattle.sha3.proofs.laws.examples_stand.Goals as goal

pub returns : goal.returns
unfolding C D θ ρ π χ ι Rnd rounds keccak word absorb chain tail padded squeezed sha3
returns c = record { empty = refl; abc = refl; almost = refl; block = refl }
