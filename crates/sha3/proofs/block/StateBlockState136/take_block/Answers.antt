use Rattle.std.proofs.Common.{rules}
use Rattle.sha3.proofs.Chaining.{chained_block}
use Rattle.sha3.proofs.block.StateBlockState136.take_block.Goals as goal

pub returns : goal.returns
returns c = λ xs whole is. chained_block c.args.self.now c.absorbed.result xs c.args.block.now whole (search rules) c.absorbed.ensures is
