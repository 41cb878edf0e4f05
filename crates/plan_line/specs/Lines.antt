-- The line that is printed of a file.
use Rattle.std.specs.Prelude.{◌≡◌, ℕ, List, [], ◌∷◌, ◌++◌, length, Ok, Err, Result, MatchResult}
use Rattle.archive.specs.declared.answers.Reading.{Reading}
use Rattle.archive.specs.declared.refusal.Refusal.{Refusal}
use Rattle.archive.specs.Outcome.{Served, Refused}
use Rattle.archive.specs.Texts.{reading_text, refusal_text}

-- a line and its end
abbrev pub line_text : Result Reading Refusal → List ℕ
line_text (Ok reading) = reading_text reading ++ 10 ∷ []
line_text (Err refusal) = refusal_text refusal ++ 10 ∷ []

-- what is told of a file: what `read` answers of its first signer
abbrev pub Tells : List ℕ → Result Reading Refusal → Type 0
Tells file told = MatchResult told (Served file (length file) 0) (Refused file (length file) 0)

-- the text that is printed of a file
abbrev pub LineOf : List ℕ → List ℕ → Type 0
LineOf file text = (told : Result Reading Refusal) × Tells file told × (text ≡ line_text told)
