use Rattle.append.proofs.Forming.{form_kept}
use Rattle.append.proofs.Limiting.{limits_kept}
use Rattle.append.proofs.Ruling.{rules_kept}
use Rattle.append.proofs.laws.laws_hold.Goals as goal

pub returns : goal.returns
returns c = record { form = form_kept; limits = limits_kept; rules = rules_kept }
