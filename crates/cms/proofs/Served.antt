-- What has no break is read, and the record that is given lies where the tree says.
use Rattle.std.proofs.Common.{◌≡◌, ℕ, ◌≤◌, List, ◌++◌, length, None, Ok, Err, Result, refl, ap, ◌∙◌, arith}
use Rattle.der.specs.Spans.{part}
use Rattle.der.specs.Trees.{Tree, Forest, Valid, encode}
use Rattle.cms.specs.declared.settings.Settings.{Settings}
use Rattle.fields.specs.Reads.{is, broke}
use Rattle.cms.specs.Records.{attribute_of, signer_of, message_of}
use Rattle.fields.specs.Rules.{field, free}
use Rattle.cms.specs.Grammar.{attribute, signer, first_break}
use Rattle.fields.specs.Placed.{placed_from, nth}
use Rattle.cms.specs.Places.{attribute_at, signer_at, message_at}
use Rattle.fields.proofs.Steps.{Gives}
use Rattle.fields.proofs.Standing.{At}
use Rattle.cms.proofs.SignerLinks.{link_attribute_of, link_signer_of}
use Rattle.cms.proofs.MessageLinks.{link_message}
use Rattle.cms.proofs.RecordPlaces.{attribute_of_lies, signer_of_lies, message_lies}

pub served : {X : Type 0} (r : Result X ℕ) (x : X) → broke r ≡ None → Gives (λ y. y ≡ x) r → r ≡ Ok x
served (Ok y) x e g = ap {B = Result _ ℕ} Ok (g.holds y refl)
served (Err p) x e g = absurd (let z : ◌≡◌ {A = ℕ} 0 1 = cc in omega arith)

-- the attribute that stands first
pub attribute_served : (levels : ℕ) (file : List ℕ) (at end : ℕ) (ts : Forest) → At levels file at end ts → field (is 0x30) attribute free at ts ≡ None →
    attribute_of file at end ≡ Ok (attribute_at (nth 0 (placed_from at ts)))
attribute_served levels file at end ts a e = served _ _ (link_attribute_of levels file at end ts a ∙ e) (attribute_of_lies levels file at end ts a)

-- the signer that stands first
pub signer_served : (levels : ℕ) (file : List ℕ) (at end : ℕ) (ts : Forest) → At levels file at end ts → field (is 0x30) signer free at ts ≡ None →
    signer_of file at end ≡ Ok (signer_at (nth 0 (placed_from at ts)))
signer_served levels file at end ts a e = served _ _ (link_signer_of levels file at end ts a ∙ e) (signer_of_lies levels file at end ts a)

-- the message that stands from one offset to another
pub message_served : (settings : Settings) (file : List ℕ) (at end : ℕ) (t : Tree) (surplus : List ℕ) (levels : ℕ) → Valid t levels → end ≤ length file → encode t ++ surplus ≡ part file at end →
    first_break settings at t surplus ≡ None → message_of settings file at end ≡ Ok (message_at at t)
message_served settings file at end t surplus levels v l e n =
    served _ _ (link_message settings file at end t surplus levels v l e ∙ n) (message_lies settings file at end t surplus levels v l e)
