use Rattle.std.proofs.Common.{length, sym, ap, ◌∙◌, arith}
use Rattle.std.proofs.lemmas.Result.{err_from_is_err_and}
use Rattle.fields.specs.Reads.{broke}
use Rattle.message.proofs.Made.{mapped_ok, mapped_from, break_read, place_read, breaks_at}
use Rattle.index.specs.Grammar.{index_break}
use Rattle.index.specs.Places.{index_at}
use Rattle.index.proofs.EntryLimits.{none_too_many}
use Rattle.stamp.proofs.Indexing.{written_as, all_of}
use Rattle.stamp.proofs.indexes.read_index_bytes.Goals as goal

pub returns-in_err-parts : goal.returns-in_err-parts
returns-in_err-parts c =
    let levels = c.args.levels in
    let bytes = c.args.index.now in
    let n = c.in_ok-walk_first.field-0 in
    let s = c.in_ok-walk_first.ensures.meaning in
    let read = c.read_index in
    let p = err_from_is_err_and c.from_residual-in_err-parts.result c.from_residual-in_err-parts.ensures.1 in
    let m = mapped_from _ read.result c.map_err.result c.in_err-parts.field-0.0 c.map_err.ensures.cases c.in_err-parts.was in
    let b = break_read levels bytes n s c.new.result c.new.ensures read.result index_break read.ensures.meaning in
    rw (p.1, p.2, m.2) (breaks_at index_break levels bytes n s m.0 (sym b ∙ ap broke m.1))

pub returns-in-Some : goal.returns-in-Some
returns-in-Some c =
    let levels = c.args.levels in
    let bytes = c.args.index.now in
    let n = c.in_ok-walk_first.field-0 in
    let s = c.in_ok-walk_first.ensures.meaning in
    let read = c.read_index in
    let q = mapped_ok _ read.result c.map_err.result c.in_ok-parts.parts c.map_err.ensures.cases c.in_ok-parts.was in
    let b = break_read levels bytes n s c.new.result c.new.ensures read.result index_break read.ensures.meaning in
    let w = written_as levels bytes n s c.in_ok-parts.parts (sym b ∙ ap broke q) (place_read levels bytes n s c.new.result c.new.ensures read.result index_at read.ensures.places _ q) in
    (w.0, w.1, sym (c.in-Some.ensures.meaning w.0 levels 0 (length bytes) w.1.valid (omega arith) (all_of levels bytes w.0 w.1) w.2))

pub returns-in-None : goal.returns-in-None
returns-in-None c =
    let levels = c.args.levels in
    let bytes = c.args.index.now in
    let n = c.in_ok-walk_first.field-0 in
    let s = c.in_ok-walk_first.ensures.meaning in
    let read = c.read_index in
    let q = mapped_ok _ read.result c.map_err.result c.in_ok-parts.parts c.map_err.ensures.cases c.in_ok-parts.was in
    let b = break_read levels bytes n s c.new.result c.new.ensures read.result index_break read.ensures.meaning in
    let w = written_as levels bytes n s c.in_ok-parts.parts (sym b ∙ ap broke q) (place_read levels bytes n s c.new.result c.new.ensures read.result index_at read.ensures.places _ q) in
    let few = sym (c.in-None.ensures.meaning w.0 levels 0 (length bytes) w.1.valid (omega arith) (all_of levels bytes w.0 w.1) w.2) in
    (w.0, record { written = w.1; shape = (none_too_many 0 w.0).0 few }, w.2)
