use Rattle.std.proofs.Common.{◌≡◌, ℕ, List, []}
use Rattle.der.specs.Trees.{Tree, encode}
use Rattle.cms.specs.Records.{attribute_of, attribute_stop}
use Rattle.fields.specs.Runs.{run_of}
use Rattle.model.specs.Parts.{Attribute}
use Rattle.rules.specs.Attributes.{first_faulty, faulty_signed}
use Rattle.rules.specs.Standing.{Row}
use Rattle.rules.proofs.Lying.{Attributes}
use Rattle.rules.proofs.attributes.first_faulty_signed.Given as goal

-- those that are left decide, with those in front of them
abbrev pub invariant-loop-attribute : goal.invariant-loop-attribute
invariant-loop-attribute l =
    (goal.iterator-loop-attribute).can_next l.attribute-iterator × (goal.iterator-loop-attribute).is_finite l.attribute-iterator
    × ((levels : ℕ) (ms : List Attribute) (expected : Tree) → Row levels l.signed.bytes.now l.signed.at l.signed.end ms → l.content_type ≡ encode expected →
    (at : ℕ) × (before : List Attribute) × (rest : List Attribute) × Row levels l.signed.bytes.now l.signed.at at before
    × Attributes levels l.signed.bytes.now l.signed.end at rest (run_of attribute_of attribute_stop l.attribute-iterator.reader)
    × (first_faulty (faulty_signed expected) [] l.signed.at ms ≡ first_faulty (faulty_signed expected) before at rest))
