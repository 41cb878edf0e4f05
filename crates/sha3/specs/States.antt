-- The lanes of the code's states. Assumes nothing.
use Rattle.std.specs.Prelude.{ℕ, List, [], ◌∷◌, ◌++◌, slice_index}
use Rattle.sha3.specs.declared.lanes.Plane.{Plane}
use Rattle.sha3.specs.declared.lanes.State.{State}

-- the lanes of a plane, by x
abbrev pub row : Plane → List ℕ
row p = p.x0 ∷ p.x1 ∷ p.x2 ∷ p.x3 ∷ p.x4 ∷ []

-- the lanes of a state: A[x, y] at 5 y + x
abbrev pub lanes : State → List ℕ
lanes s = row s.y0 ++ (row s.y1 ++ (row s.y2 ++ (row s.y3 ++ row s.y4)))

-- the plane whose lane at x is f x
abbrev pub plane : (ℕ → ℕ) → Plane
plane f = record { x0 = f 0; x1 = f 1; x2 = f 2; x3 = f 3; x4 = f 4 }

-- the lane at x of a plane
abbrev pub in_row : Plane → ℕ → ℕ
in_row p x = slice_index (row p) x
