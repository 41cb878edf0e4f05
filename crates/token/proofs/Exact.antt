-- A token has no fault.
use Rattle.std.proofs.Common.{◌≡◌, ℕ, List, length, sym, ap, ◌∙◌}
use Rattle.der.proofs.Unique.{no_fault_at}
use Rattle.model.specs.Parts.{plain}
use Rattle.model.specs.Files.{File}
use Rattle.message.specs.declared.fault.MessageFault.TheVariants.{Element, Field, Count}
use Rattle.message.proofs.Exact.{one_formed, never_both, tree_starts, no_break_there}
use Rattle.stamp_model.specs.Tokens.{info_tree, token_settings}
use Rattle.token.specs.declared.parts.TokenFault.TheVariants.{Message as InMessage, Info as InInfo}
use Rattle.token.specs.Grammar.{first_info_break}
use Rattle.token.specs.Laws.{NeverUntold, NeverBoth}
use Rattle.token.proofs.InfoTrees.{info_kept}

pub never_untold : NeverUntold
never_untold bytes (Element fault) i u k = no_fault_at 32 bytes 0 (length bytes) fault u (tree_starts 32 bytes (info_tree i) k.valid k.bytes_are)
never_untold bytes (Field p) i u k = no_break_there first_info_break 32 bytes (info_tree i) p k.valid k.bytes_are (info_kept 0 i) u
never_untold bytes (Count p) i u k = u

plain_same : {bs bs' : List ℕ} → plain bs ≡ plain bs' → bs ≡ bs'
plain_same p = cc

pub token_never_both : NeverBoth
token_never_both levels bytes (InMessage fault) f s i u k = never_both token_settings levels bytes fault f u (record { formed = k.formed; limits = k.token.limits })
token_never_both levels bytes (InInfo at fault) f s i u k =
    let e = one_formed token_settings token_settings levels bytes u.file f u.within.formed k.formed in
    never_untold u.contents fault i u.untold (record {
      valid = k.token.levels;
      bytes_are = plain_same (sym u.content ∙ ap (λ (x : File). x.content) e ∙ k.token.content);
    })
