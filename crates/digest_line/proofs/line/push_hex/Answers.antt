use Rattle.std.proofs.Common.{◌≡◌, ◌/◌, ◌%◌, [], ◌∷◌, ◌++◌, get_or, take, vec_items, sym, ap, ◌∙◌, take_all, rules}
use Rattle.std.proofs.lemmas.List.{append_assoc}
use Rattle.digest.proofs.Taking.{joined_next}
use Rattle.digest_line.specs.Hex.{digit_for, hex_of}
use Rattle.digest_line.proofs.line.push_hex.Goals as goal

pub loop-b-preserved : goal.loop-b-preserved
loop-b-preserved c =
    let bytes = c.args.bytes.now in
    let i = c.loop-b.b-index in
    let next = joined_next (λ b. digit_for (b / 16) ∷ digit_for (b % 16) ∷ []) bytes i 0 c.loop-b-test.true in
    let added : vec_items c.extend_from_slice.new.self ≡ vec_items c.loop-b.text ++ (digit_for (get_or bytes i 0 / 16) ∷ digit_for (get_or bytes i 0 % 16) ∷ []) = search rules in
    added ∙ ap (λ z. z ++ (digit_for (get_or bytes i 0 / 16) ∷ digit_for (get_or bytes i 0 % 16) ∷ [])) c.loop-b.invariant ∙ append_assoc (vec_items c.args.text.now) (hex_of (take i bytes)) _ ∙ ap (λ z. vec_items c.args.text.now ++ z) (sym next)

pub returns : goal.returns
returns c = c.loop-b.invariant ∙ ap (λ z. vec_items c.args.text.now ++ hex_of z) (take_all _ _ c.loop-b-test.false)
