use Rattle.std.proofs.Common.{is_ok, ap, arith}
use Rattle.grow.proofs.Sizes.{turn_of}
use Rattle.grow.proofs.Inserts.{end_none, end_some}
use Rattle.grow.proofs.headers.contents_end.Goals as goal

pub header_at-header-requires : goal.header_at-header-requires
header_at-header-requires c =
    let p = c.requires.path in
    let t = turn_of _ _ 0 p.0 p.1 c.in-len1-up.len_at_least c.requires.short p.2 in
    record { within = omega (arith, t.ends); header = ap is_ok t.header }

pub overflow_add-result : goal.overflow_add-result
overflow_add-result c =
    let p = c.requires.path in
    let t = turn_of _ _ 0 p.0 p.1 c.in-len1-up.len_at_least c.requires.short p.2 in
    omega (arith, c.requires.short, (end_some _ _ _ p.0 p.1 c.header_at-header.result t c.header_at-header.ensures).1)

pub overflow_add-result-in-len1-up : goal.overflow_add-result-in-len1-up
overflow_add-result-in-len1-up c =
    let p = c.requires.path in
    let t = turn_of _ _ 0 p.0 p.1 c.in-len1-up.len_at_least c.requires.short p.2 in
    omega (arith, c.requires.short, (end_some _ _ _ p.0 p.1 c.header_at-header.result t c.header_at-header.ensures).1)

pub returns-in-empty : goal.returns-in-empty
returns-in-empty c fs body e = end_none _ _ fs body (omega (arith, c.in-empty.len_below)) e

pub returns-in-len1-up : goal.returns-in-len1-up
returns-in-len1-up c fs body e =
    let t = turn_of _ _ 0 fs body c.in-len1-up.len_at_least c.requires.short e in
    (end_some _ _ _ fs body c.header_at-header.result t c.header_at-header.ensures).0
