use Rattle.std.proofs.Common.{◌≡◌, ℕ, ◌+◌, ◌-◌, List, ◌++◌, length, take, drop, ap, ◌∙◌, arith}
use Rattle.std.proofs.lemmas.List.{append-nil, drop_all, length-take, length-drop}
use Rattle.index.proofs.Areas.{part_put}
use Rattle.index.proofs.putting.put_digest.Goals as goal

pub returns : goal.returns
returns g c =
    let area = c.args.area.now in
    let at = c.args.at in
    let width = c.width.ensures in
    let part : List ℕ = take (at + c.width.result - at) (drop at area) in
    let size : length part ≡ g.G.Digest.size = simp (length-take, length-drop) (omega (arith, width, c.requires)) in
    record {
      ends = ap (λ (n : ℕ). at + n) width;
      digest = λ few.
          let wrote = (c.digest_bytes.ensures.fits few).fits (omega (arith, size)) in
          part_put area _ c.digest_bytes.new.area at _ (omega (arith, width, (g.met.G.Digest.sized c.args.bytes.now).0)) (omega (arith, width, c.requires))
          (wrote.1 ∙ ap (λ (x : List ℕ). g.G.Digest.value c.args.bytes.now ++ x) (drop_all g.G.Digest.size part (omega (arith, size))) ∙ append-nil _);
    }
