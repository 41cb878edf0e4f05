use Rattle.std.proofs.Common.{◌-◌, ◌*◌, true, refl, rules}
use Rattle.std.proofs.Output.{has_written_of_eq}
use Rattle.std.proofs.lemmas.Fmt.{hex_byte}
use Rattle.listing.proofs.Texts.{spaces}
use Rattle.listing.proofs.line.LineDisplay.fmt.Goals as goal

pub returns-clause-writes : goal.returns-clause-writes
returns-clause-writes g c plain ok =
    let line = c.args.self.now in
    let written = rw (c.laid_out.ensures, c.in_radix.ensures, c.laid_out-2.ensures) at c.write.ensures.writes in
    has_written_of_eq _ _ _ _ _ (rw (c.from-indent.ensures, c.saturating_sub.ensures, spaces (2 * (line.level - 1)), hex_byte true line.tag (search rules)) refl) (written plain ok)
