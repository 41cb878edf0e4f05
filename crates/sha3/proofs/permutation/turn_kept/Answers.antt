use Rattle.std.proofs.Common.{rules}
use lib.Bits.{xor_zero_r}
use Rattle.sha3.proofs.Bits.{not_flip}
use Rattle.sha3.proofs.permutation.turn_kept.Goals as goal

pub returns : goal.returns
returns c =
    let s = c.args.s in
    simp (
      xor_zero_r,
      not_flip s.y0.x1 (search rules),
      not_flip s.y0.x2 (search rules),
      not_flip s.y1.x3 (search rules),
      not_flip s.y2.x2 (search rules),
      not_flip s.y3.x2 (search rules),
      not_flip s.y4.x0 (search rules),
    )
