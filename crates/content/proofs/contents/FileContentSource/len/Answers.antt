use Rattle.std.proofs.Common.{length, sym, ap, ◌∙◌}
use Rattle.content.specs.declared.contents.FileContent.{FileContent}
use Rattle.content.specs.Sources.{bytes_of}
use Rattle.content.proofs.contents.FileContentSource.len.Goals as goal

pub returns-in-Plain : goal.returns-in-Plain
returns-in-Plain c = c.len.ensures ∙ ap (λ (x : FileContent). length (bytes_of x)) (sym c.in-Plain.is)

pub returns-in-Segmented : goal.returns-in-Segmented
returns-in-Segmented c = c.len-in-Segmented.ensures ∙ ap (λ (x : FileContent). length (bytes_of x)) (sym c.in-Segmented.is)
