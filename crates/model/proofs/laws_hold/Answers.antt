use Rattle.model.proofs.Filing.{no_break_is_file}
use Rattle.model.proofs.Keeping.{file_has_no_break}
use Rattle.model.proofs.Single.{one_file}
use Rattle.model.proofs.laws_hold.Goals as goal

pub returns : goal.returns
returns c = record { no_break_is_file = no_break_is_file; file_has_no_break = file_has_no_break; one_file = one_file }
