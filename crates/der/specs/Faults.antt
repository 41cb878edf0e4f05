-- The first fault in reading order, which is the order of the tags' offsets.
use Rattle.std.specs.Prelude.{◌≡◌, ℕ, ◌+◌, ◌-◌, ◌<◌, List, length, take, drop, Ok, Err}
use Rattle.der.specs.declared.header.Header.{Header}
use Rattle.der.specs.declared.fault.Fault.{Fault}
use Rattle.der.specs.declared.cause.Cause.{Cause}
use Rattle.der.specs.declared.cause.Cause.TheVariants.{TooDeep}
use Rattle.der.specs.Head.{header_of}
use Rattle.der.specs.Trees.{Starts, Constructed}

-- the contents of the element whose header `bs` begins with
abbrev pub contents : Header → List ℕ → List ℕ
contents h bs = take h.size (drop h.head bs)

mutual
  -- in the element that `bs` begins with, which has the offset `place`, and `levels` levels for it and what is inside:
  -- it stands too deep, or its header has a cause, or one of its parts is at fault
  pub data InElement : ℕ → List ℕ → ℕ → Fault → Type 0 where
    deep : {levels : ℕ} {bs : List ℕ} {place : ℕ} {f : Fault} →
        levels ≡ 0 → f ≡ record { place = place; cause = TooDeep } → InElement levels bs place f
    head : {levels : ℕ} {bs : List ℕ} {place : ℕ} {f : Fault} (c : Cause) →
        0 < levels → header_of bs ≡ Err c → f ≡ record { place = place; cause = c } → InElement levels bs place f
    inside : {levels : ℕ} {bs : List ℕ} {place : ℕ} {f : Fault} (h : Header) →
        0 < levels → header_of bs ≡ Ok h → Constructed h.tag →
        InForest (levels - 1) (contents h bs) (place + h.head) f → InElement levels bs place f

  -- in the elements that `bs` is made of, back to back: in the first, or, that one being whole, in those behind it
  pub data InForest : ℕ → List ℕ → ℕ → Fault → Type 0 where
    first : {levels : ℕ} {bs : List ℕ} {place : ℕ} {f : Fault} →
        0 < length bs → InElement levels bs place f → InForest levels bs place f
    later : {levels : ℕ} {bs : List ℕ} {place : ℕ} {f : Fault} (n : ℕ) →
        Starts levels bs n → InForest levels (drop n bs) (place + n) f → InForest levels bs place f
