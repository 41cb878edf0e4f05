use Rattle.std.proofs.Common.{◌≡◌, ℕ, ◌∷◌, ◌++◌, sym, ap, ◌∙◌, arith}
use Rattle.der.specs.Headers.{header_size_of}
use Rattle.der.specs.Trees.{length_bytes}
use Rattle.index.proofs.Areas.{put_then, put_same}
use Rattle.index.proofs.putting.put_entry.Goals as goal

pub returns : goal.returns
returns g c =
    let header = c.put_header-body.ensures in
    let digest = c.put_digest.ensures in
    let value = g.G.Digest.value c.args.element.now in
    let size = c.width.ensures ∙ sym (g.met.G.Digest.sized c.args.element.now).0 in
    let head : header_size_of c.width.result ≡ header_size_of g.G.Digest.size = ap header_size_of c.width.ensures in
    record {
      ends = omega (arith, digest.ends, header.ends, head);
      entry = λ few. put_same _ _ _ _ _ _ (ap (λ (n : ℕ). 4 ∷ (length_bytes n ++ value)) size) (put_then _ _ _ _ _ _ _ _ header (digest.digest few));
    }
