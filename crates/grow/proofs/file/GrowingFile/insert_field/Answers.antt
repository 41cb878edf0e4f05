use Rattle.std.proofs.Common.{ℕ, List, ◌++◌, subst, arith}
use Rattle.std.proofs.lemmas.Result.{err_from_is_err_and}
use Rattle.areas.specs.Pieces.{joined}
use Rattle.der.specs.Trees.{framed}
use Rattle.grow.specs.Frames.{plug}
use Rattle.grow.specs.Changes.{Wrapped}
use Rattle.grow.proofs.Plugs.{length_framed}
use Rattle.grow.proofs.Inserts.{refused_long, field_fits, field_written, wrapped_changed}
use Rattle.grow.proofs.file.GrowingFile.insert_field.Goals as goal

pub returns-in_err-size-clause-changed : goal.returns-in_err-size-clause-changed
returns-in_err-size-clause-changed c fs pre post s =
    let new : List ℕ = joined c.args.pieces.now in
    let p = err_from_is_err_and c.from_residual.result c.from_residual.ensures.1 in
    refused_long c.args.self.now fs pre (framed c.args.tag new) post new c.from_residual.result p.0 c.in_err-size.field-0.0 p.1 p.2
    c.in_err-size.ensures (omega (arith, length_framed c.args.tag new))

pub returns-clause-changed : goal.returns-clause-changed
returns-clause-changed c fs pre post s =
    let new : List ℕ = joined c.args.pieces.now in
    let fit = field_fits c.args.self.now _ _ new _ _ _ fs c.bytes.ensures c.room.ensures c.in_ok-size.ensures pre post c.args.tag s.encloses c.in_ok-measure_field.ensures in
    let w = field_written c.args.tag _ _ _ _ new c.in_ok-size.ensures c.put_header-head.ensures.ends c.put_header-head.ensures.area in
    wrapped_changed _ _ _ fit
    (subst (λ (x : List ℕ). Wrapped c.args.self.now c.insert.new.self (plug fs (pre ++ (x ++ post)))) w (c.insert.ensures.wrapped fs pre post s))
