use Rattle.std.proofs.Common.{◌∙◌}
use Rattle.compose.proofs.Taken.{front_lies, six_lie}
use Rattle.compose.proofs.taking.leads_of.Goals as goal

pub returns : goal.returns
returns c = λ levels f s i k l. record {
  front = c.cut.ensures ∙ front_lies levels c.args.token.now c.args.parts.now f s i k l;
  six = c.cut-2.ensures ∙ six_lie c.args.token.now c.args.parts.now f s i l;
}
