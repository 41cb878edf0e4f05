use Rattle.std.proofs.Common.{◌≡◌, ◌≤◌, length, take, drop, ap, ◌∙◌, arith}
use Rattle.std.proofs.lemmas.List.{take_at}
use Rattle.digest_line.proofs.line.finish_into.Goals as goal

pub returns : goal.returns
returns g c =
    let size = g.G.Digest.size in
    let small : size ≤ 64 = g.met.G.Digest.small.1 in
    let wide : c.width.result ≡ size = c.width.ensures in
    let room : size ≤ length c.args.area.now = omega arith in
    record {
      fits = omega arith;
      digest = λ xs is.
          let value = g.G.Digest.value xs in
          let sized : length value ≡ size = (g.met.G.Digest.sized xs).0 in
          let same : length value ≡ c.width.result = omega arith in
          ap (take (c.width.result)) ((c.finish.ensures xs is).fits room).1 ∙ take_at value (drop size c.args.area.now) (c.width.result) same;
    }
