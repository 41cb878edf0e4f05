use Rattle.std.proofs.Common.{ℕ, ◌-◌, ap, ◌∙◌}
use Rattle.cms.specs.declared.located.Message.{Message}
use Rattle.der.specs.Headers.{header_size_of}
use Rattle.model.specs.Files.{signed_data_tree}
use Rattle.append.specs.Listed.{outer_at}
use Rattle.append.proofs.Filing.{outer_is}
use Rattle.append.proofs.places.outer_start.Goals as goal

pub returns : goal.returns
returns c f e =
    ap (λ (x : ℕ). c.args.message.now.whole.start - x) c.header_size.ensures
    ∙ ap (λ (m : Message). m.whole.start - header_size_of (m.whole.end - m.whole.start)) e
    ∙ outer_is (outer_at f) (signed_data_tree f)
