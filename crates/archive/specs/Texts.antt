-- The text of what is told, byte by byte.
use Rattle.std.specs.Prelude.{ℕ, Bool, cond, List, [], ◌∷◌, ◌++◌, codes, decimal}
use Rattle.rules.specs.Letters.{letter_of}
use Rattle.archive.specs.declared.answers.Reading.{Reading}
use Rattle.archive.specs.declared.refusal.Refusal.{Refusal}
use Rattle.archive.specs.Numbers.{number_of, place_of, cause_of}

-- pieces of text, one after another
abbrev pub phrase : List (List ℕ) → List ℕ
phrase [] = []
phrase (p ∷ []) = p
phrase (p ∷ q ∷ ps) = p ++ phrase (q ∷ ps)

-- 1 where a flag is set, else 0
abbrev pub flag_of : Bool → ℕ
flag_of flag = cond flag 1 0

-- a served reading, on one line
abbrev pub reading_text : Reading → List ℕ
reading_text r = phrase (
    codes "form " ∷ (letter_of r.form ∷ [])
    ∷ codes " policy " ∷ decimal (flag_of r.policy)
    ∷ codes " signers " ∷ decimal r.signers
    ∷ codes " certificates " ∷ decimal r.certificates
    ∷ codes " revocations " ∷ decimal r.revocations ∷ [])

-- a refusal, on one line
abbrev pub refusal_text : Refusal → List ℕ
refusal_text r = phrase (
    codes "refused " ∷ decimal (number_of r)
    ∷ codes " place " ∷ decimal (place_of r)
    ∷ codes " cause " ∷ decimal (cause_of r) ∷ [])
