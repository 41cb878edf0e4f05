-- A file that is one element.
use Rattle.std.proofs.Common.{◌≡◌, ℕ, ◌-◌, List, [], ◌++◌, length, ap, ◌∙◌, arith}
use Rattle.std.proofs.lemmas.List.{append-nil, take_all}
use Rattle.der.specs.declared.reader.Reader.{Reader}
use Rattle.der.specs.Spans.{part}
use Rattle.der.specs.Trees.{Tree, Forest, none, more, Forms, Valids, IsElement, encode, encodes}
use Rattle.listing.specs.declared.line.Line.{Line}
use Rattle.listing.specs.Listed.{lines_of, lines_in}
use Rattle.listing.specs.Told.{Sized, Whole}

-- a reader of all the bytes has them
pub all_read : (bs : List ℕ) (r : Reader) → (r.bytes.now ≡ bs) × (r.at ≡ 0) × (r.end ≡ length bs) → part r.bytes.now r.at r.end ≡ bs
all_read bs r i =
    let e : part r.bytes.now r.at r.end ≡ part bs 0 (length bs) = cc (i.0, i.1, i.2) in
    e ∙ take_all (length bs - 0) bs (omega arith)

-- one element is elements back to back
pub forms_of : (bs : List ℕ) → IsElement 32 bs → Forms 32 bs
forms_of bs w = (more w.0 none, (w.1, tt), append-nil (encode w.0) ∙ w.2)

-- what is listed of the one element as elements back to back
pub lines_of_lem : (bs : List ℕ) (before lines : List Line) → Sized bs → IsElement 32 bs → before ≡ [] →
    ((ts : Forest) → Valids ts 32 → encodes ts ≡ bs → lines ≡ before ++ lines_in 0 1 ts) → (t : Tree) × Whole bs t × (lines ≡ lines_of 0 1 t)
unfolding forms_of
lines_of_lem bs before lines z w e k =
    let f = forms_of bs w in
    (w.0, (z, w.1, w.2), k f.0 f.1 f.2 ∙ ap (λ (x : List Line). x ++ (lines_of 0 1 w.0 ++ [])) e ∙ append-nil (lines_of 0 1 w.0))
