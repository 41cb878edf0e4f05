-- A header and a length that fit any contents of one size.
use Rattle.std.specs.Prelude.{◌≡◌, ℕ, ◌≤◌, List, length}
use Rattle.der.specs.Trees.{framed}
use Rattle.compose.specs.declared.frame.Framed.{Framed}
use Rattle.compose.specs.Headed.{Heads}

pub record Framing (h : Framed) (tag size : ℕ) : Type 0 where
  pub short : size ≤ 65535
  pub room : h.total ≤ 65539
  pub header : (body : List ℕ) → length body ≡ size → Heads h.header tag body
  pub total : (body : List ℕ) → length body ≡ size → h.total ≡ length (framed tag body)
