-- A stamp composed of what is taken over from a token.
use Rattle.std.specs.Prelude.{ℕ, List}
use Rattle.compose.specs.declared.headers.Headers.{Headers}
use Rattle.compose.specs.declared.leads.Leads.{Leads}
use Rattle.compose.specs.Composed.{stamp_bytes}
use Rattle.compose.specs.Heads.{HeadsAll, identifier_bytes}

-- its bytes, with this index
abbrev pub composed_of : Leads → List ℕ → List ℕ
composed_of leads index = stamp_bytes identifier_bytes leads.front.now leads.six.now index

-- and that headers fit them
abbrev pub HeadsFor : Headers → Leads → List ℕ → Type 0
HeadsFor h leads index = HeadsAll h leads.front.now leads.six.now index
