use Rattle.std.proofs.Common.{ℕ, map, length, sym, ap, ◌∙◌, arith}
use Rattle.std.proofs.lemmas.Nat.{mul-le}
use Rattle.std.proofs.lemmas.List.{length-map}
use Rattle.der.specs.Trees.{encode}
use Rattle.index.proofs.Areas.{put_whole}
use Rattle.matching.specs.Lists.{parts}
use Rattle.matching.proofs.Joining.{parts_joined}
use Rattle.matching.proofs.digests.Digests.of.Goals as goal

pub put_digests-requires : goal.put_digests-requires
put_digests-requires g c = mul-le c.args.elements.count g.G.Digest.size 64 64 c.requires g.met.G.Digest.small.1

pub invariant_of-result : goal.invariant_of-result
invariant_of-result g c = record { some = omega (arith, c.width.ensures, g.met.G.Digest.small.0); room = mul-le c.args.elements.count c.width.result 64 64 c.requires (omega (arith, c.width.ensures, g.met.G.Digest.small.1)) }

pub returns : goal.returns
returns g c = λ ts s.
    let put = put_whole _ _ _ _ (c.put_digests.ensures ts s) in
    ap (λ (n : ℕ). parts n c.width.result c.put_digests.new.area) (s.count ∙ sym (length-map ts encode))
    ∙ ap (λ (n : ℕ). parts (length (map encode ts)) n c.put_digests.new.area) c.width.ensures
    ∙ ap (parts (length (map encode ts)) g.G.Digest.size) put.front
    ∙ parts_joined g.G.Digest.value g.G.Digest.size (λ xs. (g.met.G.Digest.sized xs).0) (map encode ts) _
