-- What is read to find an element too many: the place behind those that may stand there.
use Rattle.std.specs.Prelude.{ℕ, zero, suc, cond, List, Some, None, Ok, Err, Option, Result, nat_le}
use Rattle.fields.specs.declared.located.Entries.{Entries}
use Rattle.cms.specs.declared.located.Message.{Message}
use Rattle.cms.specs.declared.located.Signer.{Signer}
use Rattle.fields.specs.Reads.{any_of, span_stop}
use Rattle.cms.specs.Records.{signer_of, signer_stop}
use Rattle.fields.specs.Rules.{or_else}
use Rattle.rules.specs.Limits.{most_entries, most_signers}

-- the offset itself, if contents are left there
abbrev pub left_of : ℕ → ℕ → Option ℕ
left_of at end = cond (nat_le end at) None (Some at)

-- what follows a reading, and nothing where it finds nothing
abbrev pub if_read : {X : Type 0} → Result X ℕ → (X → Option ℕ) → Option ℕ
if_read (Ok x) next = next x
if_read (Err p) next = None

-- behind n elements of contents that go to `end`, each read by `each`, unless something was found `within` one of them
abbrev pub past_by : {X : Type 0} → (List ℕ → ℕ → ℕ → Result X ℕ) → (X → ℕ) → (List ℕ → X → Option ℕ) → ℕ → List ℕ → ℕ → ℕ → Option ℕ
past_by each stop within zero file at end = left_of at end
past_by each stop within (suc n) file at end = if_read (each file at end) (λ x. or_else (within file x) (past_by each stop within n file (stop x) end))

-- behind n elements of any kind
abbrev pub past_of : ℕ → List ℕ → ℕ → ℕ → Option ℕ
past_of = past_by any_of span_stop (λ file e. None)

-- in a list whose field may be there
abbrev pub entries_past : List ℕ → Option Entries → Option ℕ
entries_past file None = None
entries_past file (Some entries) = past_of most_entries file entries.field.body entries.field.end

-- among the attributes of a signer
abbrev pub attributes_past : List ℕ → Signer → Option ℕ
attributes_past file s = or_else (entries_past file (Some s.signed)) (entries_past file s.unsigned)

-- behind n signers, or within one of them
abbrev pub signers_past : ℕ → List ℕ → ℕ → ℕ → Option ℕ
signers_past = past_by signer_of signer_stop attributes_past

-- in the lists of a message
abbrev pub first_past : List ℕ → Message → Option ℕ
first_past file m =
    or_else (entries_past file m.certificates)
    (or_else (entries_past file m.revocations)
    (signers_past most_signers file m.signers.field.body m.signers.field.end))
