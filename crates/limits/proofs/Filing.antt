-- The first element too many that the record of a file leads to is that of the file.
use Rattle.std.proofs.Common.{◌≡◌, ℕ, ◌-◌, List, length, Some, None, Option, sym, ◌∙◌, arith}
use Rattle.std.proofs.lemmas.List.{take_rest, append-nil}
use Rattle.std.specs.List.{AllByRecursion}
use Rattle.der.specs.Trees.{Tree, node, Forest, none, more, Valid, encode}
use Rattle.cms.specs.declared.settings.Settings.{Settings}
use Rattle.fields.specs.Placed.{Placed, span_of, placed_from, nth, if_first, past, mapped, entries_for}
use Rattle.cms.specs.Places.{message_at}
use Rattle.fields.specs.Rules.{or_else}
use Rattle.fields.proofs.Standing.{At}
use Rattle.fields.proofs.Tags.{seq, set, field_zero, field_one}
use Rattle.model.specs.Parts.{row_of, maybe, Signer, signer_tree}
use Rattle.model.specs.Files.{File, certificates_tree, revocations_tree, file_tree, file_bytes}
use Rattle.model.specs.Shapes.{SignerShape, Shape}
use Rattle.rules.specs.Offsets.{inside, skip_maybe}
use Rattle.rules.specs.Limits.{too_many_in, too_many_signers, most_signers, first_too_many_of}
use Rattle.limits.specs.Past.{entries_past, signers_past, first_past}
use Rattle.limits.proofs.Signing.{behind_at, within_at, list_past, both, signers_past_lem}

-- the field of the signers, and those before it
abbrev signers_field : List Signer → Tree
signers_field ss = node 0x31 (row_of signer_tree ss)

abbrev from_revocations : Option (List Tree) → List Signer → Forest
from_revocations rs ss = maybe revocations_tree rs (more (signers_field ss) none)

abbrev from_certificates : Option (List Tree) → Option (List Tree) → List Signer → Forest
from_certificates cs rs ss = maybe certificates_tree cs (from_revocations rs ss)

-- what the record leads to, by the elements that are left
abbrev signers_read : List ℕ → Placed → Option ℕ
signers_read file x = signers_past most_signers file (span_of x).body (span_of x).end

abbrev revocations_read : List ℕ → List Placed → Option ℕ
revocations_read file xs = or_else (entries_past file (mapped entries_for (if_first 0xa1 xs))) (signers_read file (nth 0 (past 0xa1 xs)))

abbrev certificates_read : List ℕ → List Placed → Option ℕ
certificates_read file xs = or_else (entries_past file (mapped entries_for (if_first 0xa0 xs))) (revocations_read file (past 0xa0 xs))

-- and what the file says
abbrev signers_said : ℕ → List Signer → Option ℕ
signers_said at ss = too_many_signers most_signers (inside at (signers_field ss)) ss

abbrev revocations_said : ℕ → Option (List Tree) → List Signer → Option ℕ
revocations_said at rs ss = or_else (too_many_in (λ t. t) revocations_tree at rs) (signers_said (skip_maybe revocations_tree at rs) ss)

module _ (levels : ℕ) (file : List ℕ) (end : ℕ) (ss : List Signer) (keep : AllByRecursion SignerShape ss) where
  signers_read_lem : (at : ℕ) → At levels file at end (more (signers_field ss) none) → signers_read file (record { at = at; tree = signers_field ss }) ≡ signers_said at ss
  signers_read_lem at a = signers_past_lem (levels - 1) file _ most_signers _ ss (within_at a set) keep

  revocations_read_lem : (at : ℕ) (rs : Option (List Tree)) → At levels file at end (from_revocations rs ss) →
      revocations_read file (placed_from at (from_revocations rs ss)) ≡ revocations_said at rs ss
  revocations_read_lem at None a = signers_read_lem at a
  revocations_read_lem at (Some es) a = both _ _ _ _ (list_past a field_one) (signers_read_lem _ (behind_at a))

  certificates_read_lem : (at : ℕ) (cs rs : Option (List Tree)) → At levels file at end (from_certificates cs rs ss) →
      certificates_read file (placed_from at (from_certificates cs rs ss))
      ≡ or_else (too_many_in (λ t. t) certificates_tree at cs) (revocations_said (skip_maybe certificates_tree at cs) rs ss)
  certificates_read_lem at None None a = revocations_read_lem at None a
  certificates_read_lem at None (Some es) a = revocations_read_lem at (Some es) a
  certificates_read_lem at (Some cs) rs a = both _ _ _ _ (list_past a field_zero) (revocations_read_lem _ rs (behind_at a))

-- a file stands from its first byte to its last
whole_at : (levels : ℕ) (file : List ℕ) (t : Tree) → Valid t levels → file ≡ encode t → At levels file 0 (length file) (more t none)
whole_at levels file t v e = record {
  valid = (v, tt);
  bytes = take_rest file 0 ∙ e ∙ sym (append-nil (encode t));
  order = omega arith;
  inside = omega arith;
}

pub file_past : (settings : Settings) (f : File) (levels : ℕ) (file : List ℕ) → Shape settings f → Valid (file_tree f) levels → file ≡ file_bytes f →
    first_past file (message_at 0 (file_tree f)) ≡ first_too_many_of f
file_past settings f levels file k v e =
    let fields = within_at (within_at (behind_at (within_at (whole_at levels file (file_tree f) v e) seq)) field_zero) seq in
    certificates_read_lem _ file _ f.signers k.signers _ f.certificates f.revocations (behind_at (behind_at (behind_at fields)))
