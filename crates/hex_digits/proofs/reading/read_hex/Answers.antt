use Rattle.std.proofs.Common.{◌≡◌, ℕ, ◌+◌, ◌-◌, ◌*◌, List, [], ◌∷◌, ◌++◌, length, take, drop, vec_items, sym, refl, ap, ◌∙◌, rules}
use Rattle.std.proofs.lemmas.Slice.{pushed}
use Rattle.hex_digits.specs.Digits.{bytes_of}
use Rattle.hex_digits.proofs.Stepping.{with_all, next_byte}
use Rattle.hex_digits.proofs.reading.read_hex.Goals as goal

pub loop-rest-preserved : goal.loop-rest-preserved
loop-rest-preserved c =
    let front = vec_items c.loop-rest.bytes in
    let rest = c.loop-rest.rest.now in
    let byte : ℕ = c.in-Some-Some.high * 16 + c.in-Some-Some.low in
    let more : vec_items c.push.new.self ≡ front ++ byte ∷ [] = pushed (byte ∷ []) refl c.in_ok-push.was c.push.ensures.items in
    c.loop-rest.invariant
    ∙ next_byte front rest (search rules) c.value.result c.value-in-len2-up.result c.value.ensures.value c.value-in-len2-up.ensures.value c.in-Some-Some.high c.in-Some-Some.low c.in-Some-Some.is-0 c.in-Some-Some.is-1
    ∙ ap (λ (x : List ℕ). with_all x (bytes_of (take (length rest - 2) (drop 2 rest)))) (sym more)
