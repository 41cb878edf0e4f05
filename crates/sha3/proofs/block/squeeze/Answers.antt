use Rattle.sha3.specs.Sha3.{squeezed}
use Rattle.sha3.proofs.block.squeeze.Goals as goal

pub returns : goal.returns
unfolding squeezed
returns c =
    simp (
      c.copy_from_slice.ensures.after,
      c.copy_from_slice-2.ensures.after,
      c.copy_from_slice-3.ensures.after,
      c.copy_from_slice-4.ensures.after,
      c.to_le_bytes.ensures,
      c.to_le_bytes-2.ensures,
      c.to_le_bytes-3.ensures,
      c.to_le_bytes-4.ensures,
    )
