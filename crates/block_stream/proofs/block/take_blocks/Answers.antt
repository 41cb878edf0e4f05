use Rattle.std.proofs.Common.{◌≡◌, ◌+◌, ◌*◌, ◌/◌, ◌%◌, ◌<◌, ◌≤◌, ◌++◌, length, get_or, take, drop, sym, ap, ◌∙◌, subst, arith, add-one, length-append, length-take, take-add}
use Rattle.std.proofs.Math.Nat.{div-mul-le_self, mul-le-mul_right, mul-mod_left, suc-mul}
use Rattle.std.proofs.lemmas.List.{append_assoc}
use Rattle.block_stream.proofs.Holding.{after_whole, chunk_at}
use Rattle.block_stream.proofs.block.take_blocks.Goals as goal

pub as_chunks-requires : goal.as_chunks-requires
as_chunks-requires g c = let sized = g.met.S.BlockState.sized in (omega (arith, sized.1), sized.0)

pub loop-block-preserved : goal.loop-block-preserved
loop-block-preserved g c = λ xs e is.
    let n = g.row.N in
    let bytes = c.args.bytes.now in
    let i = c.loop-block.block-index in
    let within : i < length bytes / n = omega (arith, c.as_chunks.ensures.front_len, c.loop-block-test.true) in
    let block : c.block-item.result ≡ take n (drop (i * n) bytes) =
    c.block-item.is ∙ ap (λ z. get_or z i c.block-item.result) c.as_chunks.ensures.front ∙ chunk_at n (length bytes / n) i bytes c.block-item.result within in
    let low : i * n ≤ length bytes / n * n = mul-le-mul_right n (omega arith) in
    let part : length (take (i * n) bytes) ≡ i * n = let l = div-mul-le_self (length bytes) n in simp length-take (omega arith) in
    let whole : length (xs ++ take (i * n) bytes) % n ≡ 0 =
    ap (λ m. m % n) (length-append xs (take (i * n) bytes)) ∙ after_whole (length xs) (length (take (i * n) bytes)) n e ∙ ap (λ m. m % n) part ∙ mul-mod_left i n in
    let more : i * n + n ≡ (i + 1) * n = rw (add-one i) (sym (suc-mul i n)) in
    let next : (xs ++ take (i * n) bytes) ++ c.block-item.result ≡ xs ++ take ((i + 1) * n) bytes =
    ap (λ z. (xs ++ take (i * n) bytes) ++ z) block ∙ append_assoc xs (take (i * n) bytes) (take n (drop (i * n) bytes))
    ∙ ap (λ z. xs ++ z) (sym (take-add (i * n) n bytes) ∙ ap (λ m. take m bytes) more) in
    subst (g.S.BlockState.stands c.take_block.new.self) next (c.take_block.ensures (xs ++ take (i * n) bytes) whole (c.loop-block.invariant xs e is))

pub returns : goal.returns
returns g c =
    let n = g.row.N in
    let bytes = c.args.bytes.now in
    let all : c.loop-block.block-index ≡ length bytes / n = omega (arith, c.as_chunks.ensures.front_len) in
    record {
      taken = λ xs e is. subst (λ k. g.S.BlockState.stands c.loop-block.state (xs ++ take (k * n) bytes)) all (c.loop-block.invariant xs e is);
      left = c.as_chunks.ensures.back;
    }
