-- What a stream of blocks stands for, over the relation of a state to the lists of whole blocks that it stands for.
use Rattle.std.specs.Prelude.{◌≡◌, ℕ, ◌%◌, List, ◌++◌, length, take}
use Rattle.block_stream.specs.declared.stream.Stream.{Stream}

-- the stream has taken the bytes of the list: its state stands for the whole blocks, its buffer has what is left over
pub record Holds {S : Type 0} (n : ℕ) (stands : S → List ℕ → Type 0) (s : Stream S n) (xs : List ℕ) : Type 0 where
  pub counted : s.count ≡ length xs
  pub blocks : List ℕ
  pub whole : length blocks % n ≡ 0
  pub chained : stands s.state blocks
  pub rest : xs ≡ blocks ++ take (length xs % n) s.buffer
