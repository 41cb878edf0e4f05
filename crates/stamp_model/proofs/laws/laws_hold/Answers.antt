use Rattle.std.proofs.Common.{refl}
use Rattle.stamp_model.proofs.Keeping.{late_laws, signer_stays, stamp_stays}
use Rattle.stamp_model.proofs.Single.{one_index, one_stamp}
use Rattle.stamp_model.proofs.Telling.{parts_tell}
use Rattle.stamp_model.proofs.laws.laws_hold.Goals as goal

pub returns : goal.returns
returns c = record {
  one_index = one_index;
  one_stamp = one_stamp;
  parts_tell = parts_tell;
  late_laws = late_laws;
  signer_stays = signer_stays;
  stamp_stays = stamp_stays;
  empty_index = λ D. refl;
}
