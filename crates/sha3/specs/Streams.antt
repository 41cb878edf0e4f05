-- What a state and a stream stand for. Assumes nothing.
use Rattle.std.specs.Prelude.{◌≡◌, ℕ, ◌/◌, List, length}
use Rattle.block_stream.specs.declared.stream.Stream.{Stream}
use Rattle.block_stream.specs.Streams.{Holds as StreamHolds}
use Rattle.sha3.specs.declared.lanes.State.{State}
use Rattle.sha3.specs.Sha3.{chain}
use Rattle.sha3.specs.States.{lanes}

-- the state after the whole blocks of the list
abbrev pub Chained : State → List ℕ → Type 0
Chained state xs = lanes state ≡ chain (length xs / 136) xs

-- the stream has taken the bytes of the list
abbrev pub Holds : Stream State 136 → List ℕ → Type 0
Holds s xs = StreamHolds 136 Chained s xs
