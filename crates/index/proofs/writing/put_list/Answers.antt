use Rattle.std.proofs.Common.{◌≡◌, ℕ, ◌*◌, List, ◌∷◌, ◌++◌, map, length, sym, ap, ◌∙◌, arith}
use Rattle.std.proofs.lemmas.List.{length-map}
use Rattle.der.specs.Headers.{header_size_of}
use Rattle.der.specs.Trees.{length_bytes, encode}
use Rattle.index.specs.Entries.{entries_bytes}
use Rattle.index.specs.Sizes.{framed_size_of}
use Rattle.index.proofs.Areas.{put_then, put_same}
use Rattle.index.proofs.Sizing.{entries_length}
use Rattle.index.proofs.writing.put_list.Goals as goal

pub returns : goal.returns
returns g c =
    let header = c.put_header-body.ensures in
    let put = c.put_entries.ensures in
    let size = c.entries_size.ensures.value in
    record {
      few = omega (arith, header.ends, put.few, ap header_size_of size);
      list = λ ts s.
          let entries : List ℕ = entries_bytes g.G.Digest.value ts in
          let many : c.entries_size.result ≡ length entries =
          size ∙ ap (λ (n : ℕ). n * framed_size_of g.G.Digest.size) (s.count ∙ sym (length-map ts encode))
          ∙ sym (entries_length g.G.Digest.value g.G.Digest.size (λ xs. (g.met.G.Digest.sized xs).0) (map encode ts)) in
          put_same _ _ _ _ _ _ (ap (λ (n : ℕ). 0x30 ∷ (length_bytes n ++ entries)) many) (put_then _ _ _ _ _ _ _ _ header (put.entries ts s));
    }
