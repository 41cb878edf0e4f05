-- What a stamp takes over from a token.
use Rattle.std.specs.Prelude.{◌≡◌}
use Rattle.model.specs.Parts.{Signer}
use Rattle.model.specs.Files.{File}
use Rattle.stamp_model.specs.Covering.{six_bytes}
use Rattle.compose.specs.declared.leads.Leads.{Leads}
use Rattle.compose.specs.Fronts.{front_bytes}

-- the front of the signed data of f, and the six fields of s
pub record Takes (leads : Leads) (f : File) (s : Signer) : Type 0 where
  pub front : leads.front.now ≡ front_bytes f
  pub six : leads.six.now ≡ six_bytes s
