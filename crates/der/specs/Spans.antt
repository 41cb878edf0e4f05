-- Where elements lie in bytes, and what a reader of them hands out.
use Rattle.std.specs.Prelude.{◌≡◌, ℕ, ◌+◌, ◌<◌, ◌≤◌, List, Ok, Err, Result}
use Rattle.areas.specs.Cuts.{between}
use Rattle.der.specs.declared.cause.Cause.{Cause}
use Rattle.der.specs.declared.fault.Fault.{Fault}
use Rattle.der.specs.declared.header.Header.{Header}
use Rattle.der.specs.declared.span.Span.{Span}
use Rattle.der.specs.Head.{header_of}
use Rattle.der.specs.Trees.{Tree, Forest, encode, encodes, tag_of, body_of}

-- the bytes from the offset `at` up to `end`
abbrev pub part : List ℕ → ℕ → ℕ → List ℕ
part = between

-- where the element lies whose header stands at `at`
abbrev pub span_at : ℕ → Header → Span
span_at at h = record { tag = h.tag; start = at; body = at + h.head; end = at + h.head + h.size }

-- where the element lies whose header was read at `at`, or the fault there
abbrev pub spanned : ℕ → Result Header Cause → Result Span Fault
spanned at (Ok h) = Ok (span_at at h)
spanned at (Err c) = Err (record { place = at; cause = c })

-- the element at `at` of elements that end at `end`, by its header alone
abbrev pub element_of : List ℕ → ℕ → ℕ → Result Span Fault
element_of bs at end = spanned at (header_of (part bs at end))

-- the reader at `at` hands out the element there, and stands behind it
pub record Handed (bs : List ℕ) (at end : ℕ) (s : Span) (after : ℕ) : Type 0 where
  pub read : element_of bs at end ≡ Ok s
  pub start : s.start ≡ at
  pub body : at < s.body
  pub ends : s.body ≤ s.end
  pub within : s.end ≤ end
  pub behind : after ≡ s.end

-- the reader at `at` finds no header, and stays
pub record Stayed (bs : List ℕ) (at end : ℕ) (f : Fault) (after : ℕ) : Type 0 where
  pub read : element_of bs at end ≡ Err f
  pub stays : after ≡ at

-- what is handed out is the tree `t`, and what is left are the trees `ts`
pub record FirstTree (bs : List ℕ) (end : ℕ) (t : Tree) (ts : Forest) (s : Span) (after : ℕ) : Type 0 where
  pub tag : s.tag ≡ tag_of t
  pub whole : part bs s.start s.end ≡ encode t
  pub inside : part bs s.body s.end ≡ body_of t
  pub rest : part bs after end ≡ encodes ts
