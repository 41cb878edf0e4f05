use Rattle.std.proofs.Common.{◌∷◌}
use Rattle.append.specs.Listed.{frame}
use Rattle.append.proofs.Listing.{standing}
use Rattle.append.proofs.place.Place.append.Goals as goal

pub returns-then-self-clause-changed : goal.returns-then-self-clause-changed
returns-then-self-clause-changed c fs before after old l =
    c.append.ensures.changed (frame before c.args.self.now.tag after ∷ fs) old (standing l c.as_slice-path.ensures.offsets c.if-self.true)
