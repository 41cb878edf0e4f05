use Rattle.compose.specs.Composed.{stamp_type, index_type}
use Rattle.compose.proofs.Joining.{pieces_joined}
use Rattle.compose.proofs.pieces.pieces_of.Goals as goal

pub returns : goal.returns
unfolding stamp_type index_type
returns c = λ k.
    pieces_joined c.args.headers.now c.args.leads.front.now c.args.leads.six.now c.args.index.now
    c.as_slice.result.now c.as_slice-2.result.now c.as_slice-3.result.now c.as_slice-4.result.now c.as_slice-5.result.now c.as_slice-6.result.now
    c.as_slice-7.result.now c.as_slice-8.result.now c.as_slice-9.result.now c.as_slice-10.result.now
    c.as_slice.ensures c.as_slice-2.ensures c.as_slice-3.ensures c.as_slice-4.ensures c.as_slice-5.ensures c.as_slice-6.ensures
    c.as_slice-7.ensures c.as_slice-8.ensures c.as_slice-9.ensures c.as_slice-10.ensures k
