-- The front and the six fields lie where the record of a token says.
use Rattle.std.proofs.Common.{◌≡◌, ℕ, ◌-◌, List, ◌++◌, Some, None, Option, sym, refl, ap, ◌∙◌, subst}
use Rattle.der.specs.Spans.{part}
use Rattle.der.specs.Trees.{Tree, Forest, none, more}
use Rattle.fields.proofs.Standing.{At}
use Rattle.cms.specs.declared.located.Message.{Message}
use Rattle.model.specs.Parts.{Signer}
use Rattle.model.specs.Files.{File, certificates_tree, revocations_tree, signers_tree}
use Rattle.rules.specs.Offsets.{skip, skip_maybe, data_at, certificates_at, signers_at}
use Rattle.message.proofs.Lying.{fields, data_end, file_lies}
use Rattle.message.proofs.SignerParts.{before, alone_at, six_stand}
use Rattle.stamp_model.specs.Tokens.{Info, token_settings}
use Rattle.stamp_model.specs.Covering.{six_bytes}
use Rattle.token.specs.declared.parts.TokenParts.{TokenParts}
use Rattle.token.specs.Tokens.{IsToken, LiesAsToken}
use Rattle.compose.specs.Fronts.{if_there, front_trees, front_bytes}
use Rattle.compose.proofs.Encoding.{front_before}

-- behind the front are the signers
front_ends : (f : File) → skip (data_at f) (front_trees f) ≡ signers_at f
front_ends f = lists (certificates_at f) f.certificates f.revocations
  where
    lists : (p : ℕ) (cs rs : Option (List Tree)) → skip p (if_there certificates_tree cs ++ if_there revocations_tree rs) ≡ skip_maybe revocations_tree (skip_maybe certificates_tree p cs) rs
    lists p None None = refl
    lists p None (Some rs) = refl
    lists p (Some cs) None = refl
    lists p (Some cs) (Some rs) = refl

pub front_lies : (levels : ℕ) (bytes : List ℕ) (parts : TokenParts) (f : File) (s : Signer) (i : Info) → IsToken levels bytes f s i → LiesAsToken bytes parts f s i →
    part bytes parts.message.whole.body parts.message.signers.field.start ≡ front_bytes f
unfolding front_bytes
front_lies levels bytes parts f s i k l =
    let m = parts.message in
    let w = file_lies token_settings levels bytes f k.formed m l.message in
    let a : At (levels - 1 - 1 - 1) bytes (data_at f) (data_end f) (before (front_trees f) (more (signers_tree f) none)) =
    subst (λ (y : Forest). At (levels - 1 - 1 - 1) bytes (data_at f) (data_end f) y) (sym (front_before f (more (signers_tree f) none))) (fields token_settings levels bytes f k.formed) in
    ap (λ (y : Message). part bytes y.whole.body m.signers.field.start) l.message
    ∙ ap (part bytes (data_at f)) (w.starts ∙ sym (front_ends f))
    ∙ (alone_at (levels - 1 - 1 - 1) bytes (data_at f) (data_end f) (front_trees f) (more (signers_tree f) none) a).bytes

pub six_lie : (bytes : List ℕ) (parts : TokenParts) (f : File) (s : Signer) (i : Info) → LiesAsToken bytes parts f s i →
    part bytes parts.signer.whole.body parts.signer.signature.end ≡ six_bytes s
six_lie bytes parts f s i l = (six_stand bytes parts.signer s l.signer).bytes
