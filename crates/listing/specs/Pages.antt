-- The text of a whole outline: what a program prints of a file.
use Rattle.std.specs.Prelude.{◌≡◌, ℕ, List, [], ◌∷◌, ◌++◌, vec_items, Ok, Err, Result}
use Rattle.listing.specs.declared.line.Line.{Line}
use Rattle.listing.specs.declared.outline.Outline.{Outline}
use Rattle.listing.specs.declared.refusal.Refusal.{Refusal}
use Rattle.listing.specs.Told.{Tells}
use Rattle.listing.specs.Words.{line_text, refusal_text}

-- a text and the line end
abbrev pub ended : List ℕ → List ℕ
ended text = text ++ 10 ∷ []

-- lines, one after another
abbrev pub lines_text : List Line → List ℕ
lines_text [] = []
lines_text (l ∷ ls) = ended (line_text l) ++ lines_text ls

-- what is told: the lines of an outline, or the refusal alone
abbrev pub told_text : Result Outline Refusal → List ℕ
told_text (Ok outline) = lines_text (vec_items outline.lines)
told_text (Err r) = ended (refusal_text r)

-- the text that is printed of a file
abbrev pub TextOf : List ℕ → List ℕ → Type 0
TextOf bs text = (told : Result Outline Refusal) × Tells bs told × (text ≡ told_text told)

-- a file has one text
abbrev pub OneText : Type 0
OneText = (bs text other : List ℕ) → TextOf bs text → TextOf bs other → text ≡ other
