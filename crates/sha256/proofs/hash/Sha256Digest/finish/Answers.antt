use Rattle.std.proofs.Common.{◌≡◌, length, ap, ◌∙◌, subst}
use Rattle.digest.specs.Took.{Wrote}
use Rattle.sha256.specs.Sha.{sha256, written}
use Rattle.sha256.proofs.hash.Sha256Digest.finish.Goals as goal

pub returns : goal.returns
unfolding sha256 written
returns c = λ xs is.
    let value : c.digest_of.result ≡ sha256 xs = c.digest_of.ensures ∙ ap written (c.padded.ensures xs is) in
    subst (λ v. Wrote v (length v) c.args.area.now c.write_digest.new.area c.write_digest.result) value c.write_digest.ensures
