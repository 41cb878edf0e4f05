use Rattle.std.proofs.Common.{◌≡◌, ◌∙◌, arith, rules, refl}
use Rattle.sha256.specs.Sha.{M}
use Rattle.sha256.proofs.Filling.{filled}
use Rattle.sha256.proofs.Schedule.{word_first}
use Rattle.sha256.proofs.rounds.first_window.Goals as goal

pub returns : goal.returns
returns c = λ k h.
    let block = c.args.block in
    filled _ (λ f. f.0 ≡ block) (λ i y. y ≡ M block.now i) (λ f q i y is called. (search rules, search rules)) 16 0 _ c.from_fn.result refl c.from_fn.ensures.items.each k 0 (omega arith) h
    ∙ word_first block.now k h
