-- Pieces that are joined, one after another.
use Rattle.std.proofs.Common.{◌≡◌, ℕ, ◌+◌, ◌<◌, List, [], ◌∷◌, ◌++◌, length, get_or, take, ap, ◌∙◌, Bor}
use Rattle.std.proofs.lemmas.Grind.{flat_map-append}
use Rattle.std.proofs.lemmas.List.{append-nil, length-append, take_more}
use Rattle.areas.specs.Pieces.{joined}

-- what stands where there is no piece
abbrev pub no_piece : Bor (List ℕ)
no_piece = record { ref_ptr = (0, 0); now = [] }

-- one piece more
pub front_next : (pieces : List (Bor (List ℕ))) (i : ℕ) → i < length pieces →
    joined (take (i + 1) pieces) ≡ joined (take i pieces) ++ (get_or pieces i no_piece).now
front_next pieces i l =
    ap joined (take_more pieces i no_piece l) ∙ flat_map-append (λ p. p.now) (take i pieces) (get_or pieces i no_piece ∷ [])
    ∙ ap (λ (z : List ℕ). joined (take i pieces) ++ z) (append-nil (get_or pieces i no_piece).now)

pub front_length : (pieces : List (Bor (List ℕ))) (i : ℕ) → i < length pieces →
    length (joined (take (i + 1) pieces)) ≡ length (joined (take i pieces)) + length (get_or pieces i no_piece).now
front_length pieces i l = ap length (front_next pieces i l) ∙ length-append (joined (take i pieces)) (get_or pieces i no_piece).now
