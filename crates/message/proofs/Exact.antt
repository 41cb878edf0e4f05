-- A message within its limits is one, and has no fault.
use Rattle.std.proofs.Common.{◌≡◌, ℕ, ◌<◌, List, [], length, Some, None, Option, sym, ap, ◌∙◌, arith}
use Rattle.std.proofs.lemmas.List.{append-nil, take_all}
use Rattle.der.specs.Trees.{Tree, leaf, node, Starts, Valid, encode}
use Rattle.der.proofs.Unique.{no_fault_at, same_tree}
use Rattle.cms.specs.Grammar.{first_break}
use Rattle.model.specs.Files.{file_tree}
use Rattle.model.proofs.Keeping.{file_has_no_break}
use Rattle.model.proofs.Single.{one_file}
use Rattle.rules.specs.Limits.{first_too_many_of}
use Rattle.message.specs.declared.fault.MessageFault.TheVariants.{Element, Field, Count}
use Rattle.message.specs.Formed.{BreaksAt}
use Rattle.message.specs.Laws.{OneFormed, NeverBoth}

pub one_formed : OneFormed
one_formed settings settings' levels bytes f f' k k' = one_file f f' levels k.valid k'.valid (sym k.bytes_are ∙ k'.bytes_are)

encode_some : (t : Tree) → 0 < length (encode t)
encode_some (leaf tag body) = omega arith
encode_some (node tag parts) = omega arith

-- bytes that are an element begin with it
pub tree_starts : (levels : ℕ) (bytes : List ℕ) (t : Tree) → Valid t levels → bytes ≡ encode t → Starts levels bytes (length bytes)
tree_starts levels bytes t v e = (t, v, sym e ∙ sym (take_all (length bytes) bytes (omega arith)), omega arith, omega (arith, ap length e, encode_some t))

-- and where it has no break, they have none
pub no_break_there : (break_of : ℕ → Tree → List ℕ → Option ℕ) (levels : ℕ) (bytes : List ℕ) (t : Tree) (p : ℕ) → Valid t levels → bytes ≡ encode t → break_of 0 t [] ≡ None →
    BreaksAt break_of levels bytes p → ⊥
no_break_there break_of levels bytes t p v e n b =
    let s = same_tree b.tree t levels b.surplus [] b.valid v (b.bytes_are ∙ e ∙ sym (append-nil (encode t))) in
    let q : break_of 0 t [] ≡ Some p = ap (λ (x : Tree). break_of 0 x []) (sym s.0) ∙ ap (break_of 0 b.tree) (sym s.1) ∙ b.first in
    let z : ◌≡◌ {A = ℕ} 0 1 = cc in omega arith

not_both : (o : Option ℕ) (p : ℕ) → o ≡ Some p → o ≡ None → ⊥
not_both o p a b = let z : ◌≡◌ {A = ℕ} 0 1 = cc in omega arith

pub never_both : NeverBoth
never_both settings levels bytes (Element fault) f u w =
    no_fault_at levels bytes 0 (length bytes) fault u (tree_starts levels bytes (file_tree f) w.formed.valid w.formed.bytes_are)
never_both settings levels bytes (Field p) f u w =
    no_break_there (first_break settings) levels bytes (file_tree f) p w.formed.valid w.formed.bytes_are (file_has_no_break settings 0 levels f w.formed.shape w.formed.valid) u
never_both settings levels bytes (Count p) f (f', k', c) w =
    not_both (first_too_many_of f) p (ap first_too_many_of (sym (one_formed settings settings levels bytes f' f k' w.formed)) ∙ c) w.limits
