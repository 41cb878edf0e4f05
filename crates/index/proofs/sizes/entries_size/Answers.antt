use Rattle.std.proofs.Common.{ℕ, ◌*◌, ap, ◌∙◌, arith}
use Rattle.std.proofs.lemmas.Nat.{mul-le}
use Rattle.index.specs.Sizes.{framed_size_of}
use Rattle.index.proofs.sizes.entries_size.Goals as goal

pub returns : goal.returns
returns g c =
    let small = g.met.G.Digest.small in
    record {
      value = ap (λ (n : ℕ). c.args.count * n) (c.framed_size.ensures.value ∙ ap framed_size_of c.width.ensures);
      few = mul-le c.args.count c.framed_size.result 64 68 c.requires (omega (arith, c.framed_size.ensures.few, c.width.ensures, small.1));
    }
