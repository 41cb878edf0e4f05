use Rattle.std.proofs.Common.{refl, arith, lit<}
use Rattle.der.specs.Faults.{head, inside, first}
use Rattle.der.specs.declared.cause.Cause.TheVariants.{Missing, HighTag, Indefinite, HugeLength, LongLength}
use Rattle.der.proofs.laws.samples_hold.Goals as goal

pub returns : goal.returns
returns c = (
  refl,
  refl,
  refl,
  head LongLength (lit< tt) refl refl,
  head Indefinite (lit< tt) refl refl,
  head HugeLength (lit< tt) refl refl,
  head HighTag (lit< tt) refl refl,
  inside _ (lit< tt) refl (λ e. omega arith) (first (lit< tt) (head Missing (lit< tt) refl refl)),
)
