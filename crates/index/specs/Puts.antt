-- What writing into an area or a table does.
use Rattle.std.specs.Prelude.{◌≡◌, ℕ, ◌+◌, List, ◌++◌, length, take, drop}

-- the new ones go behind the first `at`, up to `end`; those before and behind them stay
pub record Put {X : Type 0} (was is : List X) (at : ℕ) (new : List X) (end : ℕ) : Type 0 where
  pub ends : end ≡ at + length new
  pub front : take end is ≡ take at was ++ new
  pub rest : drop end is ≡ drop end was

-- the new ones stand at the front, and the answer says how many they are; those behind them stay
pub record Written {X : Type 0} (new was is : List X) (count : ℕ) : Type 0 where
  pub counted : count ≡ length new
  pub front : is ≡ new ++ drop count was
