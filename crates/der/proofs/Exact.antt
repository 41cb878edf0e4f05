-- A header is read exactly where bytes begin with it, and bytes always are elements or have a fault.
use Rattle.std.proofs.Common.{◌≡◌, ℕ, suc, ◌+◌, ◌⊎◌, List, ◌∷◌, ◌++◌, length, drop, Some, None, Ok, Option, sym, ap, ◌∙◌, inl, inr, arith}
use Rattle.std.proofs.lemmas.List.{append_assoc, length-append, take-append-drop, length-take-le}
use Rattle.der.specs.declared.fault.Fault.{Fault}
use Rattle.der.specs.declared.header.Header.{Header}
use Rattle.der.specs.Computed.{fault_in, fault_at, size_at}
use Rattle.der.specs.Faults.{contents, InElement, InForest}
use Rattle.der.specs.Bytes.{Bytes}
use Rattle.der.specs.Head.{header_of}
use Rattle.der.specs.Headers.{Begins}
use Rattle.der.specs.Trees.{Forms, Starts, framed, header_bytes, length_bytes}
use Rattle.der.proofs.Decided.{Decides, DecidesAt, decides, decides_at}
use Rattle.der.proofs.Frames.{Framed}
use Rattle.der.proofs.Unique.{of_head}
use Rattle.der.proofs.Walks.{framed_at, length_contents}

pub begins : (bs : List ℕ) (h : Header) → Bytes bs → header_of bs ≡ Ok h → Begins bs h
begins bs h t e =
    let w : Framed bs h = framed_at bs h t e in
    let n : ℕ = h.head + h.size in
    let size : length (contents h bs) ≡ h.size = length_contents bs h w in
    let within = w.within in
    let whole : bs ≡ framed h.tag (contents h bs) ++ drop n bs =
    sym (take-append-drop n bs) ∙ ap (λ (x : List ℕ). x ++ drop n bs) w.written in
    let count : n ≡ length (framed h.tag (contents h bs)) = sym (length-take-le n bs within) ∙ ap length w.written in
    let parts : length (framed h.tag (contents h bs)) ≡ suc (length (length_bytes (length (contents h bs))) + length (contents h bs)) =
    ap suc (length-append (length_bytes (length (contents h bs))) (contents h bs)) in
    let lb : length (length_bytes (length (contents h bs))) ≡ length (length_bytes h.size) = ap (λ (k : ℕ). length (length_bytes k)) size in
    record {
      sayable = record { low = w.low; short = w.short };
      head = omega arith;
      rest = contents h bs ++ drop n bs;
      bytes =
          whole
          ∙ ap {B = List ℕ} (λ x. h.tag ∷ x) (append_assoc (length_bytes (length (contents h bs))) (contents h bs) (drop n bs))
          ∙ ap (λ (k : ℕ). header_bytes h.tag k ++ (contents h bs ++ drop n bs)) size;
      room = omega (arith, length-append (contents h bs) (drop n bs));
    }

pub begun : (bs : List ℕ) (h : Header) → Begins bs h → header_of bs ≡ Ok h
begun bs h b =
    ap header_of b.bytes
    ∙ of_head h.tag h.size b.rest b.sayable.low b.sayable.short b.room
    ∙ ap (λ (k : ℕ). Ok (record { tag = h.tag; head = k; size = h.size })) (sym b.head)

pub always_one : (levels : ℕ) (bs : List ℕ) (place : ℕ) → Bytes bs → Forms levels bs ⊎ ((f : Fault) × InForest levels bs place f)
always_one levels bs place t = go (fault_in (length bs) levels bs place) (decides (length bs) levels bs place (omega arith) t)
  where
    go : (o : Option Fault) → Decides levels bs place o → Forms levels bs ⊎ ((f : Fault) × InForest levels bs place f)
    go None w = inl w
    go (Some f) i = inr (f, i)

pub always_front : (levels : ℕ) (bs : List ℕ) (place : ℕ) → Bytes bs → ((n : ℕ) × Starts levels bs n) ⊎ ((f : Fault) × InElement levels bs place f)
always_front levels bs place t = go (fault_at levels bs place) (decides_at levels bs place t)
  where
    go : (o : Option Fault) → DecidesAt levels bs place (size_at bs) o → ((n : ℕ) × Starts levels bs n) ⊎ ((f : Fault) × InElement levels bs place f)
    go None w = inl (size_at bs, w)
    go (Some f) i = inr (f, i)
