use Rattle.der.proofs.Exact.{begins, begun, always_one, always_front}
use Rattle.der.proofs.Unique.{same_forest, same_tree, no_fault, one_fault, no_fault_at, one_fault_at}
use Rattle.der.proofs.laws.laws_hold.Goals as goal

pub returns : goal.returns
returns c = record {
  header_exact = λ bs h t. (begins bs h t, begun bs h);
  one_forest = same_forest;
  one_front = same_tree;
  one_fault = one_fault;
  never_both = no_fault;
  always_one = always_one;
  front = record { one_fault = one_fault_at; never_both = no_fault_at; always_one = always_front };
}
