-- A list whose field is there.
use Rattle.std.proofs.Common.{◌≡◌, ℕ, Bool, true, List, ◌∷◌, sym, subst}
use Rattle.grow.specs.Frames.{Frame}
use Rattle.grow.specs.Changes.{Encloses}
use Rattle.append.specs.Listed.{frame, ListAt}

pub standing : {file path path' : List ℕ} {fs : List Frame} {before : List ℕ} {tag : ℕ} {after old : List ℕ} {there : Bool} →
    ListAt there file path fs before tag after old → path' ≡ path → there ≡ true → Encloses file path' (frame before tag after ∷ fs) old
standing {file} {path} {path'} {fs} {before} {tag} {after} {old} l p e = subst (λ (x : List ℕ). Encloses file x (frame before tag after ∷ fs) old) (sym p) (l.field e)
