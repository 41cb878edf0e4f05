-- Tried without: the check does not find it.
use Rattle.std.proofs.Common.{sym}
use Rattle.message.proofs.Lying.{file_lies}
use Rattle.archive.specs.Accepted.{file_settings}
use Rattle.archive.proofs.gate.accept.Goals as goal

pub returns-in-Some : goal.returns-in-Some
returns-in-Some c =
    let k = c.in_ok-message.ensures in
    (k.0, k.1.formed, k.1.limits, sym (c.in-Some.ensures k.0 (file_lies file_settings 32 c.args.file.now k.0 k.1.formed c.in_ok-message.message k.2)))

pub returns-in-None : goal.returns-in-None
returns-in-None c =
    let k = c.in_ok-message.ensures in (
      k.0,
      record {
        formed = k.1.formed;
        limits = k.1.limits;
        rules = sym (c.in-None.ensures k.0 (file_lies file_settings 32 c.args.file.now k.0 k.1.formed c.in_ok-message.message k.2));
      },
      k.2,
    )
