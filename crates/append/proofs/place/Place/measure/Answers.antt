use Rattle.std.proofs.Common.{◌∷◌}
use Rattle.append.specs.Listed.{frame}
use Rattle.append.proofs.Listing.{standing}
use Rattle.append.proofs.place.Place.measure.Goals as goal

pub returns-then-self : goal.returns-then-self
returns-then-self c fs before after old new l m =
    c.measure_append.ensures (frame before c.args.self.now.tag after ∷ fs) old new (standing l c.as_slice-path.ensures.offsets c.if-self.true) m
