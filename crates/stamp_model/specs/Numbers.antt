-- The number of each list.
use Rattle.std.specs.Prelude.{ℕ}
use Rattle.stamp_model.specs.declared.lists.ListName.{ListName}
use Rattle.stamp_model.specs.declared.lists.ListName.TheVariants.{Certificates, Revocations, Attributes}

abbrev pub list_number : ListName → ℕ
list_number Certificates = 1
list_number Revocations = 2
list_number Attributes = 3
