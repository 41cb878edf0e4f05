use Rattle.compose.proofs.Sizes.{signers_long, data_long, field_long, message_long, values_long, stamp_long, outer_heads}
use Rattle.compose.proofs.heading.head_stamp.Goals as goal

pub returns-in_err-signers : goal.returns-in_err-signers
returns-in_err-signers c = rw c.from_residual.ensures (signers_long c.args.identifier c.args.front c.args.signer c.in_err-signers.ensures)

pub returns-in_err-data : goal.returns-in_err-data
returns-in_err-data c = rw c.from_residual-in_err-data.ensures (data_long c.args.identifier c.args.front c.args.signer c.in_ok-signers.signers c.in_ok-signers.ensures c.in_err-data.ensures)

pub returns-in_err-field : goal.returns-in_err-field
returns-in_err-field c = rw c.from_residual-in_err-field.ensures (field_long c.args.identifier c.args.front c.args.signer c.in_ok-signers.signers c.in_ok-signers.ensures c.in_ok-data.«data» c.in_ok-data.ensures c.in_err-field.ensures)

pub returns-in_err-message : goal.returns-in_err-message
returns-in_err-message c = rw c.from_residual-in_err-message.ensures (message_long c.args.identifier c.args.front c.args.signer c.in_ok-signers.signers c.in_ok-signers.ensures c.in_ok-data.«data» c.in_ok-data.ensures c.in_ok-field.field c.in_ok-field.ensures c.in_err-message.ensures)

pub returns-in_err-values : goal.returns-in_err-values
returns-in_err-values c = rw c.from_residual-in_err-values.ensures (values_long c.args.identifier c.args.front c.args.signer c.in_ok-signers.signers c.in_ok-signers.ensures c.in_ok-data.«data» c.in_ok-data.ensures c.in_ok-field.field c.in_ok-field.ensures c.in_ok-message.message c.in_ok-message.ensures c.in_err-values.ensures)

pub returns-in_err-stamp : goal.returns-in_err-stamp
returns-in_err-stamp c = rw c.from_residual-in_err-stamp.ensures (stamp_long c.args.identifier c.args.front c.args.signer c.in_ok-signers.signers c.in_ok-signers.ensures c.in_ok-data.«data» c.in_ok-data.ensures c.in_ok-field.field c.in_ok-field.ensures c.in_ok-message.message c.in_ok-message.ensures c.in_ok-values.values c.in_ok-values.ensures c.in_err-stamp.ensures)

pub returns : goal.returns
returns c = outer_heads c.args.identifier c.args.front c.args.signer c.in_ok-signers.signers c.in_ok-signers.ensures c.in_ok-data.«data» c.in_ok-data.ensures c.in_ok-field.field c.in_ok-field.ensures c.in_ok-message.message c.in_ok-message.ensures c.in_ok-values.values c.in_ok-values.ensures c.in_ok-stamp.stamp c.in_ok-stamp.ensures
