use Rattle.std.proofs.Common.{Some, None, refl, ap}
use Rattle.imprint.specs.Contents.{chosen}
use Rattle.imprint.proofs.Few.{never_long as few}
use Rattle.imprint.proofs.laws.laws_hold.Goals as goal

pub returns : goal.returns
returns c = record {
  one_content = record {
    detached_file = λ given. refl;
    own = λ content bytes e. ap (λ o. chosen o None) e;
    two = λ content bytes given e. ap (λ o. chosen o (Some given)) e;
  };
  never_long = few;
}
