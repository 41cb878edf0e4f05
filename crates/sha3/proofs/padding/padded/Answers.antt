use Rattle.std.proofs.Common.{◌≡◌, ◌+◌, ◌-◌, ◌%◌, ◌^◌, ◌<◌, ◌∷◌, ◌++◌, length, get_or, take, set, replicate, bit_or, ap, ◌∙◌, subst, arith, length-set, length-take}
use Rattle.sha3.specs.Sha3.{padded, tail}
use Rattle.sha3.specs.Streams.{Chained}
use Rattle.sha3.proofs.Endings.{laid, length_ending}
use Rattle.sha3.proofs.padding.padded.Goals as goal

pub returns : goal.returns
unfolding padded tail
returns c = λ xs is.
    let n = c.args.stream.count in
    let last = 135 - n % 136 in
    let counted = is.counted in
    let slice = take (last + 1) (set (6 ∷ replicate 135 0) last (bit_or (get_or (6 ∷ replicate 135 0) last 0) 128)) in
    let value : slice ≡ tail n = laid last (omega arith) in
    let size = length_ending last in
    let full : (length xs + length slice) % 136 ≡ 0 = omega (arith, ap length value) in
    let below : length xs + length slice < 2 ^ 64 = omega (arith, ap length value) in
    subst (λ v. Chained c.padded.result (xs ++ v)) (value ∙ ap tail counted) (c.padded.ensures xs is below full)

pub slice_bounds-padding-end : goal.slice_bounds-padding-end
slice_bounds-padding-end c = simp length-set (omega arith)

pub slice_bounds-padded-end : goal.slice_bounds-padded-end
slice_bounds-padded-end c = simp (length-take, length-set) (omega arith)
