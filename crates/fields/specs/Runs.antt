-- What stands back to back in contents, each read where the one before it ends.
use Rattle.std.specs.Prelude.{ℕ, zero, suc, ◌-◌, cond, ◌&&◌, List, [], ◌∷◌, Some, None, Ok, Err, Option, Result, nat_le, nat_lt}
use Rattle.der.specs.declared.reader.Reader.{Reader}

-- what is found at `at`, if it ends further on, in contents that go to `end`
abbrev pub found : {X : Type 0} → (X → ℕ) → ℕ → ℕ → Result X ℕ → Option X
found stop at end (Ok x) = cond (nat_lt at (stop x) && nat_le (stop x) end) (Some x) None
found stop at end (Err p) = None

abbrev pub first_and : {X : Type 0} → Option X → (X → List X) → List X
first_and None rest = []
first_and (Some x) rest = x ∷ rest x

-- what stands from `at` on, up to the first break: the first `most` of it
abbrev pub run_first : {X : Type 0} → (List ℕ → ℕ → ℕ → Result X ℕ) → (X → ℕ) → ℕ → List ℕ → ℕ → ℕ → List X
run_first reading stop zero file at end = []
run_first reading stop (suc most) file at end =
    first_and (found stop at end (reading file at end)) (λ x. run_first reading stop most file (stop x) end)

-- all of it: each takes a byte at least
abbrev pub run_in : {X : Type 0} → (List ℕ → ℕ → ℕ → Result X ℕ) → (X → ℕ) → List ℕ → ℕ → ℕ → List X
run_in reading stop file at end = run_first reading stop (end - at) file at end

-- the same, from where a reader stands to its end
abbrev pub run_of : {X : Type 0} → (List ℕ → ℕ → ℕ → Result X ℕ) → (X → ℕ) → Reader → List X
run_of reading stop reader = run_in reading stop reader.bytes.now reader.at reader.end
