use Rattle.compose.proofs.Sizes.{set_long, carrier_long, unsigned_long, signer_long, inner_heads}
use Rattle.compose.proofs.heading.head_signer.Goals as goal

pub returns-in_err-set : goal.returns-in_err-set
returns-in_err-set c = rw c.from_residual.ensures (set_long c.args.six c.args.index c.in_err-set.ensures)

pub returns-in_err-carrier : goal.returns-in_err-carrier
returns-in_err-carrier c = rw c.from_residual-in_err-carrier.ensures (carrier_long c.args.six c.args.index c.in_ok-set.set c.in_ok-set.ensures c.in_err-carrier.ensures)

pub returns-in_err-unsigned : goal.returns-in_err-unsigned
returns-in_err-unsigned c = rw c.from_residual-in_err-unsigned.ensures (unsigned_long c.args.six c.args.index c.in_ok-set.set c.in_ok-set.ensures c.in_ok-carrier.carrier c.in_ok-carrier.ensures c.in_err-unsigned.ensures)

pub returns-in_err-signer : goal.returns-in_err-signer
returns-in_err-signer c = rw c.from_residual-in_err-signer.ensures (signer_long c.args.six c.args.index c.in_ok-set.set c.in_ok-set.ensures c.in_ok-carrier.carrier c.in_ok-carrier.ensures c.in_ok-unsigned.unsigned c.in_ok-unsigned.ensures c.in_err-signer.ensures)

pub returns : goal.returns
returns c = inner_heads c.args.six c.args.index c.in_ok-set.set c.in_ok-set.ensures c.in_ok-carrier.carrier c.in_ok-carrier.ensures c.in_ok-unsigned.unsigned c.in_ok-unsigned.ensures c.in_ok-signer.signer c.in_ok-signer.ensures
