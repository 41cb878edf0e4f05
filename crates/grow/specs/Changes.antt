-- What growing a file does.
use Rattle.std.specs.Prelude.{◌≡◌, ℕ, ◌+◌, ◌≤◌, cond, List, ◌++◌, length, take, drop, Ok, Err, Result, nat_le}
use Rattle.grow.specs.declared.file.GrowingFile.{GrowingFile}
use Rattle.grow.specs.declared.full.Full.{Full}
use Rattle.grow.specs.declared.full.Full.TheVariants.{TooLong, NoRoom}
use Rattle.grow.specs.Frames.{Frame, plug, places, start, OneByteTags, stale}

-- the file is contents inside the frames, whose tags stand at `path`
pub record Encloses (file path : List ℕ) (fs : List Frame) (body : List ℕ) : Type 0 where
  pub whole : file ≡ plug fs body
  pub here : path ≡ places fs (length body)
  pub low : OneByteTags fs

-- the path leads to contents of the file
abbrev pub IsPath : List ℕ → List ℕ → Type 0
IsPath file path = (fs : List Frame) × (body : List ℕ) × Encloses file path fs body

-- the file is contents inside the frames, and these are cut in two at `at`
pub record Spot (file path : List ℕ) (at : ℕ) (fs : List Frame) (pre post : List ℕ) : Type 0 where
  pub encloses : Encloses file path fs (pre ++ post)
  pub cut : at ≡ start fs (length (pre ++ post)) + length pre

-- the contents have grown by `more` bytes, and the headers around them are still those of `n` bytes
pub record Stale (file path : List ℕ) (more : ℕ) (fs : List Frame) (n : ℕ) (body : List ℕ) : Type 0 where
  pub whole : file ≡ stale fs n body
  pub here : path ≡ places fs n
  pub low : OneByteTags fs
  pub grown : length body ≡ n + more

-- the bytes of a growing file
abbrev pub file_in : GrowingFile → List ℕ
file_in g = take g.end g.buffer.now

-- a growing file before and after a change: it lies in the same buffer
pub record SameBuffer (old new : GrowingFile) : Type 0 where
  pub name : new.buffer.ghost_name ≡ old.buffer.ghost_name
  pub room : length new.buffer.now ≡ length old.buffer.now

-- there is room for a new file, and it may be as long
pub record Fits (g : GrowingFile) (file : List ℕ) : Type 0 where
  pub short : length file ≤ 65535
  pub room : length file ≤ length g.buffer.now

-- the buffer holds the new file, and behind it what it held
pub record Wrapped (old new : GrowingFile) (file : List ℕ) : Type 0 where
  pub long : new.end ≡ length file
  pub holds : new.buffer.now ≡ file ++ drop new.end old.buffer.now

-- a length that a file may have, or the refusal
abbrev pub short : ℕ → Result ℕ Full
short n = cond (nat_le n 65535) (Ok n) (Err TooLong)

-- the same in a buffer of `room` bytes
abbrev pub fitting : ℕ → ℕ → Result ℕ Full
fitting room n = cond (nat_le n 65535) (cond (nat_le n room) (Ok n) (Err NoRoom)) (Err TooLong)

-- what a buffer holds after a change of its file, or after a refusal
abbrev pub after : Result ℕ Full → List ℕ → List ℕ → List ℕ
after (Ok n) file old = file ++ drop n old
after (Err e) file old = old

-- and where the file ends
abbrev pub end_after : Result ℕ Full → ℕ → ℕ
end_after (Ok n) old = n
end_after (Err e) old = old

-- the answer says whether the new file fits, and the buffer then holds it, and behind it what it held
pub record Changed (old new : GrowingFile) (r : Result ℕ Full) (file : List ℕ) : Type 0 where
  pub answer : r ≡ fitting (length old.buffer.now) (length file)
  pub buffer : new.buffer.now ≡ after r file old.buffer.now
  pub end : new.end ≡ end_after r old.end
