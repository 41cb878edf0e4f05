-- What the walks answer, in terms of trees and faults: exact on both sides.
use Rattle.std.specs.Prelude.{◌≡◌, ℕ, ◌<◌, List, length, Ok, Err, Result, MatchResult}
use Rattle.der.specs.declared.fault.Fault.{Fault}
use Rattle.der.specs.declared.broken.Broken.{Broken}
use Rattle.der.specs.declared.broken.Broken.TheVariants.{Faulty, Surplus}
use Rattle.der.specs.Trees.{Forms, IsElement, Starts}
use Rattle.der.specs.Faults.{InElement, InForest}
use Rattle.der.specs.Computed.{fault_in, fault_at, size_at, verdict}

-- of elements back to back: accepted exactly when they are, else the first fault
pub record Walked (levels : ℕ) (bs : List ℕ) (r : Result (Unit {0}) Fault) : Type 0 where
  pub meaning : MatchResult r (λ _. Forms levels bs) (λ f. InForest levels bs 0 f)
  pub accepts : Forms levels bs → r ≡ Ok tt
  pub refuses : (f : Fault) → InForest levels bs 0 f → r ≡ Err f
  pub computed : r ≡ verdict tt (fault_in (length bs) levels bs 0)

-- of the element at the front, whatever is behind it: its length exactly when it is one, else its first fault
pub record WalkedFirst (levels : ℕ) (bs : List ℕ) (r : Result ℕ Fault) : Type 0 where
  pub meaning : MatchResult r (λ n. Starts levels bs n) (λ f. InElement levels bs 0 f)
  pub accepts : (n : ℕ) → Starts levels bs n → r ≡ Ok n
  pub refuses : (f : Fault) → InElement levels bs 0 f → r ≡ Err f
  pub computed : r ≡ verdict (size_at bs) (fault_at levels bs 0)

-- why bytes are not one element: a fault in the first, or bytes behind it
abbrev pub Breaks : ℕ → List ℕ → Broken → Type 0
Breaks levels bs (Faulty f) = InElement levels bs 0 f
Breaks levels bs (Surplus n) = Starts levels bs n × (n < length bs)

-- of one element and nothing else
pub record WalkedOne (levels : ℕ) (bs : List ℕ) (r : Result (Unit {0}) Broken) : Type 0 where
  pub meaning : MatchResult r (λ _. IsElement levels bs) (Breaks levels bs)
  pub accepts : IsElement levels bs → r ≡ Ok tt
  pub refuses : (b : Broken) → Breaks levels bs b → r ≡ Err b
