-- The text of an outline, byte by byte.
use Rattle.std.specs.Prelude.{ℕ, ◌+◌, ◌-◌, ◌*◌, ◌/◌, ◌%◌, cond, List, [], ◌∷◌, ◌++◌, replicate, codes, decimal, nat_lt}
use Rattle.der.specs.Causes.{cause_number}
use Rattle.listing.specs.declared.line.Line.{Line}
use Rattle.listing.specs.declared.refusal.Refusal.{Refusal}
use Rattle.listing.specs.declared.refusal.Refusal.TheVariants.{Length, Element, Surplus}

-- pieces of text, one after another
abbrev pub phrase : List (List ℕ) → List ℕ
phrase [] = []
phrase (p ∷ []) = p
phrase (p ∷ q ∷ ps) = p ++ phrase (q ∷ ps)

-- so many steps of two spaces
abbrev pub indent_text : ℕ → List ℕ
indent_text steps = replicate (2 * steps) 32

-- an upper-case hexadecimal digit: 0 to 9, A to F
abbrev pub hex_digit : ℕ → ℕ
hex_digit d = cond (nat_lt d 10) (48 + d) (55 + d)

-- a byte as two hexadecimal digits
abbrev pub hex_text : ℕ → List ℕ
hex_text byte = hex_digit (byte / 16) ∷ hex_digit (byte % 16) ∷ []

-- a line, indented by one step for each level below the first
abbrev pub line_text : Line → List ℕ
line_text l = phrase (
    indent_text (l.level - 1)
    ∷ decimal l.offset ∷ codes ": level " ∷ decimal l.level
    ∷ codes " tag " ∷ hex_text l.tag
    ∷ codes " header " ∷ decimal l.header
    ∷ codes " contents " ∷ decimal l.contents ∷ [])

-- a refusal, on one line: its number, place and cause; place and cause are 0 where there is none
abbrev pub refusal_text : Refusal → List ℕ
refusal_text Length = codes "refused 1 place 0 cause 0"
refusal_text (Element f) = phrase (codes "refused 2 place " ∷ decimal f.place ∷ codes " cause " ∷ decimal (cause_number f.cause) ∷ [])
refusal_text (Surplus n) = phrase (codes "refused 3 place " ∷ decimal n ∷ codes " cause 0" ∷ [])
