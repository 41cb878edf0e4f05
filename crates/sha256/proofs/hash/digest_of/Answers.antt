use Rattle.sha256.specs.Sha.{written}
use Rattle.sha256.proofs.hash.digest_of.Goals as goal

pub returns : goal.returns
unfolding written
returns c =
    simp (
      c.copy_from_slice.ensures.after,
      c.copy_from_slice-2.ensures.after,
      c.copy_from_slice-3.ensures.after,
      c.copy_from_slice-4.ensures.after,
      c.copy_from_slice-5.ensures.after,
      c.copy_from_slice-6.ensures.after,
      c.copy_from_slice-7.ensures.after,
      c.copy_from_slice-8.ensures.after,
      c.to_be_bytes.ensures,
      c.to_be_bytes-2.ensures,
      c.to_be_bytes-3.ensures,
      c.to_be_bytes-4.ensures,
      c.to_be_bytes-5.ensures,
      c.to_be_bytes-6.ensures,
      c.to_be_bytes-7.ensures,
      c.to_be_bytes-8.ensures,
    )
