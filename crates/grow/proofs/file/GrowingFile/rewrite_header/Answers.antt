use Rattle.std.proofs.Common.{ℕ, ◌+◌, ◌-◌, subst}
use Rattle.der.specs.Trees.{header_bytes}
use Rattle.grow.specs.Splices.{Parted}
use Rattle.grow.proofs.Overlays.{filled}
use Rattle.grow.proofs.file.GrowingFile.rewrite_header.Goals as goal

pub returns-clause-bytes : goal.returns-clause-bytes
returns-clause-bytes c =
    let was = c.args.self.now in
    filled was.buffer.now c.open_gap.new.self.buffer.now _ was.end c.args.at c.args.header.head (header_bytes c.args.header.tag c.args.size)
    c.requires.within c.requires.grows was.within
    (subst (λ (x : ℕ). Parted was.buffer.now c.open_gap.new.self.buffer.now was.end (c.args.at + c.args.header.head) (x - c.args.header.head)) c.header_size.ensures c.open_gap.ensures.parted)
    c.put_header.ensures.area
