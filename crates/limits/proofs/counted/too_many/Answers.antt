use Rattle.limits.proofs.Behind.{past_is}
use Rattle.std.proofs.Common.{◌∙◌}
use Rattle.limits.proofs.counted.too_many.Goals as goal

pub returns : goal.returns
returns c =
    let found = c.find_past.ensures in
    let bytes = c.args.inside.bytes.now in
    let at = c.args.inside.at in
    let end = c.args.inside.end in
    record {
      computed = found;
      meaning = λ ts levels v l m e. found ∙ past_is levels bytes end c.args.limit at ts (record { valid = v; bytes = e; order = l; inside = m });
    }
