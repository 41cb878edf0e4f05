use Rattle.std.proofs.Common.{refl}
use Rattle.sha256.specs.Sha.{sha256, written, H, padded, padding, fill_bytes_of, compress, added, rounds, round, T₁, T₂, W, next_word, mixed, M, Ch, Maj, Σ₀, Σ₁, σ₀, σ₁}
use Rattle.sha256.proofs.example.example_holds.Goals as goal

pub returns : goal.returns
unfolding sha256 written H padded padding fill_bytes_of compress added rounds round T₁ T₂ W next_word mixed M Ch Maj Σ₀ Σ₁ σ₀ σ₁
returns c = refl
