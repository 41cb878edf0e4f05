-- Samples: an outline and the three refusals as they are printed.
use Rattle.std.specs.Prelude.{◌≡◌, [], codes}
use Rattle.der.specs.declared.cause.Cause.TheVariants.{Missing}
use Rattle.der.specs.Trees.{Tree, leaf, node, none, more}
use Rattle.listing.specs.declared.refusal.Refusal.TheVariants.{Length, Element, Surplus}
use Rattle.listing.specs.Listed.{lines_of}
use Rattle.listing.specs.Words.{refusal_text}
use Rattle.listing.specs.Pages.{ended, lines_text}

-- 30 04 A0 02 05 00
abbrev pub sample : Tree
sample = node 0x30 (more (node 0xa0 (more (leaf 0x05 []) none)) none)

abbrev pub Samples : Type 0
Samples =
    (lines_text (lines_of 0 1 sample)
    ≡ codes "0: level 1 tag 30 header 2 contents 4\n  2: level 2 tag A0 header 2 contents 2\n    4: level 3 tag 05 header 2 contents 0\n")
    × (ended (refusal_text Length) ≡ codes "refused 1 place 0 cause 0\n")
    × (ended (refusal_text (Element (record { place = 2; cause = Missing }))) ≡ codes "refused 2 place 2 cause 1\n")
    × (ended (refusal_text (Surplus 17)) ≡ codes "refused 3 place 17 cause 0\n")
