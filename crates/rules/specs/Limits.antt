-- Counts and their limits: the place of the first element too many.
use Rattle.std.specs.Prelude.{ℕ, zero, suc, List, [], ◌∷◌, Some, None, Option}
use Rattle.der.specs.Trees.{Tree, Forest, none, more}
use Rattle.fields.specs.Rules.{or_else}
use Rattle.model.specs.Parts.{row_of, attribute_tree, signed_tree, unsigned_tree, Signer, signer_tree}
use Rattle.model.specs.Files.{File, certificates_tree, revocations_tree, signers_tree}
use Rattle.rules.specs.Offsets.{behind, inside, signed_at, unsigned_at, certificates_at, revocations_at, signers_at}

-- the place of the element that stands behind the first n
abbrev pub too_many_of : ℕ → ℕ → Forest → Option ℕ
too_many_of n p none = None
too_many_of zero p (more t ts) = Some p
too_many_of (suc n) p (more t ts) = too_many_of n (behind p t) ts

-- at most 64 in the lists of a file and of a signer, and 8 signers
abbrev pub most_entries : ℕ
most_entries = 64

abbrev pub most_signers : ℕ
most_signers = 8

-- in a list whose field, if it is there, begins at `p`
abbrev pub too_many_in : {M : Type 0} → (M → Tree) → (List M → Tree) → ℕ → Option (List M) → Option ℕ
too_many_in tree field p None = None
too_many_in tree field p (Some ms) = too_many_of most_entries (inside p (field ms)) (row_of tree ms)

-- among the attributes of the signer that begins at `p`
abbrev pub too_many_attributes : ℕ → Signer → Option ℕ
too_many_attributes p s =
    or_else (too_many_in attribute_tree signed_tree (signed_at p s) (Some s.signed))
    (too_many_in attribute_tree unsigned_tree (unsigned_at p s) s.unsigned)

-- among signers from `p` on, of which n may stand there
abbrev pub too_many_signers : ℕ → ℕ → List Signer → Option ℕ
too_many_signers n p [] = None
too_many_signers zero p (s ∷ ss) = Some p
too_many_signers (suc n) p (s ∷ ss) = or_else (too_many_attributes p s) (too_many_signers n (behind p (signer_tree s)) ss)

-- the first element of a file that is one too many, in reading order
abbrev pub first_too_many_of : File → Option ℕ
first_too_many_of f =
    or_else (too_many_in (λ t. t) certificates_tree (certificates_at f) f.certificates)
    (or_else (too_many_in (λ t. t) revocations_tree (revocations_at f) f.revocations)
    (too_many_signers most_signers (inside (signers_at f) (signers_tree f)) f.signers))
