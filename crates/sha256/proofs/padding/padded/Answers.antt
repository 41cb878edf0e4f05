use Rattle.std.proofs.Common.{◌≡◌, ℕ, ◌+◌, ◌-◌, ◌*◌, ◌%◌, ◌^◌, ◌<◌, List, ◌∷◌, ◌++◌, length, take, replicate, sym, ap, ap₂, ◌∙◌, subst, arith, add-one, length-append}
use lib.ListN.{length-replicate}
use borrow.Rule.Slice.PartMut.{post_of, put_mid}
use Rattle.std.proofs.lemmas.List.{append_assoc, take_at, take-replicate}
use Rattle.sha256.specs.Sha.{eight, fill_bytes_of, padded, padding}
use Rattle.sha256.specs.Streams.{Chained}
use Rattle.sha256.proofs.padding.padded.Goals as goal

-- the byte 80, z zero bytes and eight bytes more, at the front of an array
laid : (z k : ℕ) (bits : List ℕ) → z < 64 → length bits ≡ 8 → take (z + 9) (put_mid (z + 1) k (128 ∷ replicate 71 0) bits) ≡ (128 ∷ replicate z 0) ++ bits
laid z k bits small eight =
    let array = 128 ∷ replicate 71 0 in
    let front : take (z + 1) array ≡ 128 ∷ replicate z 0 = rw (add-one z) (ap (λ x. 128 ∷ x) (take-replicate z 71 0 (omega arith))) in
    let size : length (take (z + 1) array ++ bits) ≡ z + 9 =
    length-append (take (z + 1) array) bits ∙ ap (λ x. length x + length bits) front ∙ (let n = length-replicate {A = ℕ} z 0 in omega arith) in
    ap (take (z + 9)) (sym (append_assoc (take (z + 1) array) bits (post_of (z + 1) k array)))
    ∙ take_at (take (z + 1) array ++ bits) (post_of (z + 1) k array) (z + 9) size ∙ ap (λ x. x ++ bits) front

pub returns : goal.returns
unfolding padded padding
returns c = λ xs is.
    let n = c.args.stream.count in
    let z = c.fill_bytes-zeros.result in
    let bits : c.copy_from_slice.new.self ≡ eight (8 * n) = c.copy_from_slice.ensures.after ∙ c.to_be_bytes-bits.ensures in
    let small : z < 64 = c.fill_bytes-zeros.ensures.fewest.0 in
    let whole = c.fill_bytes-zeros.ensures.fewest.1 in
    let slice = take (z + 9) (put_mid (z + 1) (z + 9 - (z + 1)) (128 ∷ replicate 71 0) c.copy_from_slice.new.self) in
    let value : slice ≡ padding n =
    laid z (z + 9 - (z + 1)) c.copy_from_slice.new.self small (ap length bits) ∙ ap₂ (λ m x. (128 ∷ replicate m 0) ++ x) c.fill_bytes-zeros.ensures.is bits in
    let zeros = length-replicate {A = ℕ} (fill_bytes_of n) 0 in
    let size : length (padding n) ≡ z + 9 = length-append (128 ∷ replicate (fill_bytes_of n) 0) (eight (8 * n)) ∙ omega (arith, zeros, c.fill_bytes-zeros.ensures.is) in
    let counted = is.counted in
    let full : (length xs + length slice) % 64 ≡ 0 = omega (arith, ap length value, size) in
    let below : length xs + length slice < 2 ^ 64 = omega (arith, ap length value, size) in
    subst (λ v. Chained c.padded.result (xs ++ v)) (value ∙ ap padding counted) (c.padded.ensures xs is below full)
