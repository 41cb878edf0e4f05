use Rattle.std.proofs.Common.{◌≡◌, ℕ, List, drop}
use Rattle.grow.specs.Frames.{Frame, plug}
use Rattle.grow.specs.Changes.{Stale, SameBuffer, file_in}
use Rattle.grow.proofs.Rewraps.{Behind}
use Rattle.grow.proofs.file.GrowingFile.rewrap.Given as goal

-- the headers so far are written anew, and what stood behind the file stands there
abbrev pub invariant-loop-place : goal.invariant-loop-place
invariant-loop-place l =
    SameBuffer l.initial.self l.self
    × (drop l.self.end l.self.buffer.now ≡ drop l.self.end l.initial.self.buffer.now)
    × ((fs : List Frame) (m : ℕ) (body : List ℕ) → Stale (file_in l.initial.self) l.path l.more fs m body →
    Behind (file_in l.self) (drop l.place-index l.path) l.grow (plug fs body))
