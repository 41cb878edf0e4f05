-- More levels at hand do no harm, so bytes determine a tree whatever the levels.
use Rattle.std.proofs.Common.{◌≡◌, ℕ, ◌+◌, ◌-◌, ◌≤◌, [], sym, ◌∙◌, arith}
use Rattle.std.proofs.lemmas.List.{append-nil}
use Rattle.der.specs.Trees.{Tree, leaf, node, Forest, none, more, Valid, Valids, encode}
use Rattle.der.proofs.Unique.{same_tree}

mutual
  pub valid_more : (t : Tree) (l m : ℕ) → l ≤ m → Valid t l → Valid t m
  valid_more (leaf tag body) l m h v = (omega (arith, v.0), v.1, v.2)
  valid_more (node tag parts) l m h v = (omega (arith, v.0), v.1, v.2, valids_more parts (l - 1) (m - 1) (omega arith) v.3)

  pub valids_more : (ts : Forest) (l m : ℕ) → l ≤ m → Valids ts l → Valids ts m
  valids_more none l m h v = tt
  valids_more (more t ts) l m h v = (valid_more t l m h v.0, valids_more ts l m h v.1)

-- two trees with the same bytes, valid at whatever levels, are the same
pub bytes_tree : (t t' : Tree) (l l' : ℕ) → Valid t l → Valid t' l' → encode t ≡ encode t' → t ≡ t'
bytes_tree t t' l l' v v' e =
    (same_tree t t' (l + l') [] [] (valid_more t l (l + l') (omega arith) v) (valid_more t' l' (l + l') (omega arith) v') (append-nil (encode t) ∙ e ∙ sym (append-nil (encode t')))).0
