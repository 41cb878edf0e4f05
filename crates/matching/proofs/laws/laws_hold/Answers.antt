use Rattle.matching.proofs.Matched.{none_unmatched, found_is_first, inside_tells}
use Rattle.matching.proofs.Surveys.{both_sides, all_rows}
use Rattle.matching.specs.Rows.{rows_of}
use Rattle.matching.proofs.laws.laws_hold.Goals as goal

pub returns : goal.returns
returns c = record {
  none_unmatched = none_unmatched;
  found_is_first = found_is_first;
  inside_tells = inside_tells;
  all_surveyed = λ D lists trees x. (all_rows D lists trees x, both_sides (rows_of D lists trees x));
}
