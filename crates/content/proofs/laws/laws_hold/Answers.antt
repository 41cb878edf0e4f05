use Rattle.std.proofs.Common.{refl}
use Rattle.model.specs.Files.{file_bytes}
use Rattle.content.proofs.Lying.{segments_join, content_lies}
use Rattle.content.proofs.laws.laws_hold.Goals as goal

pub returns : goal.returns
returns c = record { segments = segments_join; content = λ f levels v. content_lies f levels (file_bytes f) v refl }
