-- Tried without: the check does not find it.
use Rattle.stamp.proofs.Bare.{burdened, bare}
use Rattle.stamp.proofs.stamps.read_bare_token.Goals as goal

pub returns-in-Some : goal.returns-in-Some
returns-in-Some c = burdened c.args.token.now c.in_ok-parts.parts c.in_ok-parts.ensures c.in-Some.unsigned c.in-Some.is

pub returns-in-None : goal.returns-in-None
returns-in-None c = bare c.args.token.now c.in_ok-parts.parts c.in_ok-parts.ensures c.in-None.is
