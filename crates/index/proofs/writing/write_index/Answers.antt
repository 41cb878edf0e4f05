use Rattle.std.proofs.Common.{ap, ◌∙◌, arith}
use Rattle.der.specs.Headers.{header_size_of}
use Rattle.stamp_model.specs.declared.lists.ListName.TheVariants.{Certificates, Revocations, Attributes}
use Rattle.index.specs.Sizes.{algorithm_size_of}
use Rattle.index.proofs.Sizing.{algorithm_length}
use Rattle.index.proofs.Wholes.{written_whole}
use Rattle.index.proofs.writing.write_index.Goals as goal

pub put_lists-requires : goal.put_lists-requires
put_lists-requires g c =
    let size = c.contents_size-contents.ensures.value in
    let named = algorithm_length c.identifier.result.now ∙ ap algorithm_size_of c.identifier.ensures in
    record {
      few = c.requires.few;
      room = omega (arith, c.requires.room, size, ap header_size_of size, c.put_header-inside.ensures.ends, c.put_algorithm-behind.ensures.ends, named, c.put_algorithm-behind.auto.area, c.put_header-inside.auto.area);
    }

pub returns : goal.returns
returns g c = λ trees s.
    written_whole g.G.Digest.value g.G.Digest.size (λ xs. (g.met.G.Digest.sized xs).0) g.G.Digest.oid trees _ _ _ _ _ _ _ _ _ _ _ _
    c.identifier.ensures c.contents_size-contents.ensures.value (s Certificates).count (s Revocations).count (s Attributes).count
    c.put_header-inside.ensures c.put_algorithm-behind.ensures (c.put_lists.ensures trees s)
