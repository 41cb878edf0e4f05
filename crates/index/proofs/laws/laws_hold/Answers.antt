use Rattle.index.proofs.AlgorithmTrees.{algorithm_of_lem, algorithm_kept}
use Rattle.index.proofs.IndexTrees.{no_break_is_index, index_has_no_break}
use Rattle.index.proofs.EntryLimits.{none_too_many}
use Rattle.index.proofs.Forming.{written_is_well}
use Rattle.index.proofs.Inside.{trees_tell}
use Rattle.index.proofs.laws.laws_hold.Goals as goal

pub returns : goal.returns
returns c = record {
  no_break_is_algorithm = algorithm_of_lem;
  algorithm_has_no_break = algorithm_kept;
  no_break_is_index = no_break_is_index;
  index_has_no_break = index_has_no_break;
  none_too_many = none_too_many;
  written_is_well = written_is_well;
  trees_tell = trees_tell;
}
