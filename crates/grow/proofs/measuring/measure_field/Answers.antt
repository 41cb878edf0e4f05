use Rattle.std.proofs.Common.{◌≡◌, ℕ, ◌+◌, ◌++◌, length, sym, ap, ◌∙◌, arith}
use Rattle.der.specs.Headers.{header_size_of}
use Rattle.der.specs.Trees.{framed}
use Rattle.grow.specs.Frames.{plug}
use Rattle.grow.specs.Changes.{fitting}
use Rattle.grow.proofs.Plugs.{length_framed}
use Rattle.grow.proofs.Fits.{too_long}
use Rattle.grow.proofs.Inserts.{length_appended, length_new, new_least}
use Rattle.grow.proofs.measuring.measure_field.Goals as goal

pub returns-then-more-gt-MOST : goal.returns-then-more-gt-MOST
returns-then-more-gt-MOST c fs pre post new tag e m =
    too_long _ (length (plug fs (pre ++ (framed tag new ++ post)))) (omega (arith, new_least fs pre (framed tag new) post, length_framed tag new, m, c.if-more-gt-MOST.true))

pub returns : goal.returns
returns c fs pre post new tag e m =
    let size : length (framed tag new) ≡ c.header_size.result + c.args.more =
    length_framed tag new ∙ ap (λ (x : ℕ). header_size_of x + x) m ∙ ap (λ (x : ℕ). x + c.args.more) (sym c.header_size.ensures) in
    c.measure_append.ensures fs (pre ++ post) (framed tag new) e size
    ∙ ap (λ (x : ℕ). fitting c.args.room x) (length_appended fs (pre ++ post) (framed tag new) _ size ∙ sym (length_new fs pre (framed tag new) post _ size))
