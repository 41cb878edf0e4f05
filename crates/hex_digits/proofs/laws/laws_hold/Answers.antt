use Rattle.hex_digits.proofs.Inverse.{written_is_read, read_was_written}
use Rattle.hex_digits.proofs.laws.laws_hold.Goals as goal

pub returns : goal.returns
returns c = record { read = written_is_read; written = read_was_written }
