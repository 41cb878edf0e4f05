-- The content of a file as bytes.
use Rattle.std.specs.Prelude.{ℕ, List, Some, None, Option}
use Rattle.std.specs.List.{flat_map}
use Rattle.der.specs.Spans.{part}
use Rattle.cms.specs.declared.located.Content.{Content as Located}
use Rattle.cms.specs.declared.located.Content.TheVariants.{Detached, Plain, Segmented}
use Rattle.model.specs.Parts.{Content, detached, plain, segmented}
use Rattle.content.specs.Segments.{joined_in}

-- none where the file is detached; segments are joined
abbrev pub content_bytes : Content → Option (List ℕ)
content_bytes detached = None
content_bytes (plain bytes) = Some bytes
content_bytes (segmented segments) = Some (flat_map (λ bytes. bytes) segments)

-- the same, read where the content lies
abbrev pub content_in : List ℕ → Located → Option (List ℕ)
content_in file Detached = None
content_in file (Plain field octets) = Some (part file octets.body octets.end)
content_in file (Segmented field segments) = Some (joined_in file segments.field.body segments.field.end)
