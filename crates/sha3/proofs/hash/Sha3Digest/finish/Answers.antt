use Rattle.std.proofs.Common.{◌≡◌, length, ap, ◌∙◌, subst}
use Rattle.digest.specs.Took.{Wrote}
use Rattle.sha3.specs.Sha3.{sha3, squeezed}
use Rattle.sha3.proofs.hash.Sha3Digest.finish.Goals as goal

pub returns : goal.returns
unfolding sha3 squeezed
returns c = λ xs is.
    let value : c.squeeze.result ≡ sha3 xs = c.squeeze.ensures ∙ ap squeezed (c.padded.ensures xs is) in
    subst (λ v. Wrote v (length v) c.args.area.now c.write_digest.new.area c.write_digest.result) value c.write_digest.ensures
