-- Where the parts of a message lie, as a record of it says.
use Rattle.std.specs.Prelude.{◌≡◌, ℕ, List, length, Some, None, Option}
use Rattle.der.specs.Spans.{part}
use Rattle.der.specs.Trees.{Tree, more, none, encode}
use Rattle.fields.specs.declared.located.Entries.{Entries}
use Rattle.fields.specs.Stands.{At}
use Rattle.cms.specs.declared.located.Message.{Message}
use Rattle.cms.specs.declared.located.Signer.{Signer as Located}
use Rattle.cms.specs.Places.{signer_at}
use Rattle.model.specs.Parts.{row, Signer, signer_tree}
use Rattle.model.specs.Files.{File, content_type_tree, signers_tree}
use Rattle.rules.specs.Offsets.{behind, inside, signers_at}
use Rattle.rules.specs.Signers.{Signers}

-- these elements stand in a field, or neither is there
abbrev pub ListLies : ℕ → List ℕ → Option Entries → Option (List Tree) → Type 0
ListLies levels bytes None None = Unit {0}
ListLies levels bytes None (Some ts) = ⊥
ListLies levels bytes (Some e) None = ⊥
ListLies levels bytes (Some e) (Some ts) = (e.count ≡ length ts) × At levels bytes e.field.body e.field.end (row ts)

-- how many entries the record has of a list that may be absent
abbrev pub entries_count : Option Entries → ℕ
entries_count None = 0
entries_count (Some e) = e.count

-- the parts of the message f lie where the record m says
pub record Lies (bytes : List ℕ) (m : Message) (f : File) : Type 0 where
  pub content_type : part bytes m.info.kind.start m.info.kind.end ≡ encode (content_type_tree f)
  pub starts : m.signers.field.start ≡ signers_at f
  pub from : m.signers.field.body ≡ inside (signers_at f) (signers_tree f)
  pub levels : ℕ
  pub signers : Signers levels bytes m.signers.field.body m.signers.field.end f.signers
  pub count : m.signers.count ≡ length f.signers
  pub certificates : ListLies levels bytes m.certificates f.certificates
  pub revocations : ListLies levels bytes m.revocations f.revocations

-- the signer s lies where the record x says
pub record SignerLies (bytes : List ℕ) (x : Located) (s : Signer) : Type 0 where
  pub levels : ℕ
  pub at : ℕ
  pub stands : At levels bytes at (behind at (signer_tree s)) (more (signer_tree s) none)
  pub located : x ≡ signer_at (record { at = at; tree = signer_tree s })
