use Rattle.std.proofs.Common.{◌++◌, sym, subst, rules}
use Rattle.sha256.specs.Streams.{Chained}
use Rattle.sha256.proofs.Chaining.{chained_block}
use Rattle.sha256.proofs.hash.WordsBlockState64.take_block.Goals as goal

pub returns : goal.returns
returns c = λ xs whole is.
    let block = c.args.block.now in
    subst (λ w. Chained w (xs ++ block)) (sym c.compressed.ensures) (chained_block c.args.self.now xs block whole (search rules) is)
