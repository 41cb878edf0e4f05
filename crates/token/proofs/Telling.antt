-- Contents with no break tell something.
use Rattle.std.proofs.Common.{◌≡◌, ℕ, List, length, drop, None, Ok, sym, ap, ◌∙◌, subst, arith}
use Rattle.der.specs.Trees.{Tree, Valid, Starts, encode}
use Rattle.fields.specs.Reads.{broke}
use Rattle.message.proofs.Made.{split_file, whole_by}
use Rattle.token.specs.declared.located.InfoParts.{InfoParts}
use Rattle.token.specs.Grammar.{info, first_info_break}
use Rattle.token.specs.Places.{info_at}
use Rattle.token.specs.Records.{info_of}
use Rattle.token.specs.Told.{ToldAt}
use Rattle.token.proofs.Links.{link_whole}
use Rattle.token.proofs.Lies.{whole_lies}
use Rattle.token.proofs.InfoTrees.{no_break_is_info}

pub told_at : (bytes : List ℕ) (n : ℕ) (s : Starts 32 bytes n) (parts : InfoParts) → Ok parts ≡ info_of bytes 0 (length bytes) → ToldAt bytes parts
told_at bytes n s parts r =
    let t = s.0 in
    let b : first_info_break 0 t (drop n bytes) ≡ None = sym (link_whole bytes 0 (length bytes) t (drop n bytes) 32 s.1 (omega arith) (split_file 32 bytes n s)) ∙ ap broke (sym r) in
    let w = whole_by info 32 bytes n s b in
    let i = no_break_is_info 0 32 t s.1 (ap (first_info_break 0 t) (sym w.0) ∙ b) in (
      i.0,
      record { valid = subst (λ (x : Tree). Valid x 32) i.1 s.1; bytes_are = w.1 ∙ ap encode i.1 },
      (whole_lies bytes 0 (length bytes) t (drop n bytes) 32 s.1 (omega arith) (split_file 32 bytes n s)).holds parts (sym r) ∙ ap (info_at 0) i.1,
    )
