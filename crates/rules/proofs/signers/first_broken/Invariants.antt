use Rattle.std.proofs.Common.{◌≡◌, ℕ, List}
use Rattle.der.specs.Trees.{Tree, encode}
use Rattle.cms.specs.Records.{signer_of, signer_stop}
use Rattle.fields.specs.Runs.{run_of}
use Rattle.model.specs.Parts.{Signer}
use Rattle.rules.specs.Attributes.{first_broken_of}
use Rattle.rules.specs.Signers.{Signers}
use Rattle.rules.proofs.Lying.{People}
use Rattle.rules.proofs.signers.first_broken.Given as goal

-- those that are left decide
abbrev pub invariant-loop-signer : goal.invariant-loop-signer
invariant-loop-signer l =
    (goal.iterator-loop-signer).can_next l.signer-iterator × (goal.iterator-loop-signer).is_finite l.signer-iterator
    × ((levels : ℕ) (ss : List Signer) (expected : Tree) → Signers levels l.signers.bytes.now l.signers.at l.signers.end ss → l.content_type ≡ encode expected →
    (at : ℕ) × (rest : List Signer) × People levels l.signers.bytes.now l.signers.end at rest (run_of signer_of signer_stop l.signer-iterator.reader)
    × (first_broken_of expected l.signers.at ss ≡ first_broken_of expected at rest))
