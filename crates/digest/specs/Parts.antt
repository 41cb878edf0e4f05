-- A part of one of two slices.
use Rattle.std.specs.Prelude.{ℕ, List}
use Rattle.areas.specs.Cuts.{between}
use Rattle.digest.specs.declared.part.Part.{Part}
use Rattle.digest.specs.declared.part.Part.TheVariants.{Buffer, Detached}

-- the bytes of a part
abbrev pub part_of : List ℕ → List ℕ → Part → List ℕ
part_of buffer detached (Buffer from to) = between buffer from to
part_of buffer detached (Detached from to) = between detached from to
