-- The laws of files: a message has no break exactly when it is a file of its shape, and that file is one.
use Rattle.std.specs.Prelude.{◌≡◌, ℕ, [], None}
use Rattle.der.specs.Trees.{Tree, Valid}
use Rattle.cms.specs.Grammar.{first_break}
use Rattle.cms.specs.declared.settings.Settings.{Settings}
use Rattle.model.specs.Files.{File, file_tree, file_bytes}
use Rattle.model.specs.Shapes.{Shape}

-- an element with no break is the tree of a file of the shape
abbrev pub NoBreakIsFile : Type 0
NoBreakIsFile = (settings : Settings) (place levels : ℕ) (t : Tree) → Valid t levels → first_break settings place t [] ≡ None →
    (f : File) × Shape settings f × (t ≡ file_tree f)

-- the tree of a file of the shape has no break
abbrev pub FileHasNoBreak : Type 0
FileHasNoBreak = (settings : Settings) (place levels : ℕ) (f : File) → Shape settings f → Valid (file_tree f) levels → first_break settings place (file_tree f) [] ≡ None

-- bytes are those of one file at most
abbrev pub OneFile : Type 0
OneFile = (f f' : File) (levels : ℕ) → Valid (file_tree f) levels → Valid (file_tree f') levels → file_bytes f ≡ file_bytes f' → f ≡ f'
