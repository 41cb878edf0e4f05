-- Lists of digests.
use Rattle.std.specs.Prelude.{ℕ, zero, suc, Bool, true, false, cond, List, [], ◌∷◌, map, take, drop}
use Rattle.std.specs.List.{flat_map}
use Rattle.std.specs.Str.{bytes_eq}
use Rattle.der.specs.Trees.{Tree, encode}
use Rattle.matching.specs.declared.digests.Digests.{Digests}

-- so many parts of `size` bytes each, one behind another
abbrev pub parts : ℕ → ℕ → List ℕ → List (List ℕ)
parts zero size bytes = []
parts (suc n) size bytes = take size bytes ∷ parts n size (drop size bytes)

-- the digests that are held
abbrev pub digests_in : Digests → List (List ℕ)
digests_in d = parts d.count d.size d.bytes

-- the digests of some elements, joined
abbrev pub digests_bytes : (List ℕ → List ℕ) → List Tree → List ℕ
digests_bytes D ts = flat_map D (map encode ts)

-- whether one of the lists is these bytes
abbrev pub holds : List (List ℕ) → List ℕ → Bool
holds [] bytes = false
holds (x ∷ xs) bytes = cond (bytes_eq x bytes) true (holds xs bytes)
