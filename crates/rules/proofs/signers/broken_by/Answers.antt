use Rattle.std.proofs.Common.{◌≡◌, ℕ, Bool, cond, [], Some, Option, sym, ap, ◌∙◌}
use Rattle.fields.specs.Rules.{or_else}
use Rattle.model.specs.Parts.{signed_tree}
use Rattle.rules.specs.Attributes.{faulty_signed, first_faulty, first_misplaced_of, lacks}
use Rattle.rules.specs.Offsets.{inside, signed_at, unsigned_at}
use Rattle.rules.proofs.SignerReading.{row_moved}
use Rattle.rules.proofs.signers.broken_by.Goals as goal

pub returns : goal.returns
returns c = λ levels p s expected t e.
    let i = c.inside-signed.ensures in
    let row = row_moved levels c.args.file.now c.inside-signed.result.bytes.now _ _ _ _ s.signed (sym i.0) (sym i.1) (sym i.2) t.signed in
    let a : lacks s.signed ≡ _ = sym (c.lacks.ensures levels s.signed row) ∙ c.if-lacks.false in
    let b = c.in_default.ensures levels s.signed expected row e ∙ ap (λ (q : ℕ). first_faulty (faulty_signed expected) [] q s.signed) (i.1 ∙ t.from) in
    let m = c.find_misplaced.ensures levels p (unsigned_at p s) s.unsigned t.unsigned in
    m ∙ ap (λ (o : Option ℕ). or_else o (first_misplaced_of (unsigned_at p s) s.unsigned)) b
    ∙ sym (ap (λ (x : Bool). cond x (Some p) (or_else (first_faulty (faulty_signed expected) [] (inside (signed_at p s) (signed_tree s.signed)) s.signed) (first_misplaced_of (unsigned_at p s) s.unsigned))) a)
