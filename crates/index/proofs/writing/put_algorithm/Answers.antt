use Rattle.std.proofs.Common.{sym, ◌∙◌}
use Rattle.index.proofs.Areas.{put_then, put_same}
use Rattle.index.proofs.Sizing.{name_bytes}
use Rattle.index.proofs.writing.put_algorithm.Goals as goal

pub returns : goal.returns
returns c =
    put_same _ _ _ _ _ _ (name_bytes c.args.name.now c.framed_size.result (sym c.is_left_out.ensures ∙ c.if-is_left_out.false) c.framed_size.ensures.value)
    (put_then _ _ _ _ _ _ _ _ c.put_header-inside.ensures (put_then _ _ _ _ _ _ _ _ c.put_header-body.ensures c.put.ensures))
