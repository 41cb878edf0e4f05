-- Bytes with no break are an index.
use Rattle.std.proofs.Common.{◌≡◌, ℕ, List, length, drop, None, sym, ap, ◌∙◌, subst}
use Rattle.der.specs.Spans.{part}
use Rattle.der.specs.Trees.{Tree, Valid, Starts, encode}
use Rattle.message.proofs.Made.{whole_part, whole_by}
use Rattle.stamp_model.specs.Indexes.{Index, index_tree, index_bytes}
use Rattle.index.specs.declared.located.IndexParts.{IndexParts}
use Rattle.index.specs.Grammar.{index, index_break}
use Rattle.index.specs.Places.{index_at}
use Rattle.index.proofs.IndexTrees.{no_break_is_index}
use Rattle.stamp.specs.Indexed.{WrittenAs}

pub written_as : (levels : ℕ) (bytes : List ℕ) (n : ℕ) (s : Starts levels bytes n) (parts : IndexParts) → index_break 0 s.0 (drop n bytes) ≡ None → parts ≡ index_at 0 s.0 →
    (x : Index) × WrittenAs levels bytes x × (parts ≡ index_at 0 (index_tree x))
written_as levels bytes n s parts b q =
    let w = whole_by index levels bytes n s b in
    let x = no_break_is_index levels 0 s.0 s.1 (ap (index_break 0 s.0) (sym w.0) ∙ b) in (
      x.0,
      record { valid = subst (λ (y : Tree). Valid y levels) x.1 s.1; bytes_are = w.1 ∙ ap encode x.1 },
      q ∙ ap (index_at 0) x.1,
    )

-- all of the bytes
pub all_of : (levels : ℕ) (bytes : List ℕ) (x : Index) → WrittenAs levels bytes x → part bytes 0 (length bytes) ≡ index_bytes x
all_of levels bytes x w = whole_part bytes ∙ w.bytes_are
