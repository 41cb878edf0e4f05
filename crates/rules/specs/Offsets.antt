-- Where the lists of a file stand, told by its parts.
use Rattle.std.specs.Prelude.{ℕ, ◌+◌, List, [], ◌∷◌, Some, None, Option}
use Rattle.der.specs.Trees.{Tree, leaf, node, none, more}
use Rattle.cms.specs.Identifiers.{signed_data_id}
use Rattle.fields.specs.Rules.{head_size, body_size}
use Rattle.model.specs.Parts.{version_tree, identifier_tree, algorithm_tree, signed_tree, Signer, signer_tree}
use Rattle.model.specs.Files.{File, certificates_tree, revocations_tree, content_info_tree, signed_data_tree, file_tree}

-- the offset behind an element that begins at `p`, and that of its contents
abbrev pub behind : ℕ → Tree → ℕ
behind p t = p + head_size t + body_size t

abbrev pub inside : ℕ → Tree → ℕ
inside p t = p + head_size t

-- the offset behind elements back to back
abbrev pub skip : ℕ → List Tree → ℕ
skip p [] = p
skip p (t ∷ ts) = skip (behind p t) ts

-- behind a field that may be there
abbrev pub skip_maybe : {M : Type 0} → (M → Tree) → ℕ → Option M → ℕ
skip_maybe tree p None = p
skip_maybe tree p (Some m) = behind p (tree m)

-- of a signer that begins at `p`: the fields of its signed and of its unsigned attributes
abbrev pub signed_at : ℕ → Signer → ℕ
signed_at p s = skip (inside p (signer_tree s)) (version_tree s.identifier ∷ identifier_tree s.identifier ∷ algorithm_tree s.digest ∷ [])

abbrev pub unsigned_at : ℕ → Signer → ℕ
unsigned_at p s = skip (signed_at p s) (signed_tree s.signed ∷ node 0x30 s.algorithm ∷ leaf 4 s.signature ∷ [])

-- of a file: the contents of its signed data, and the fields of its lists
abbrev pub data_at : File → ℕ
data_at f = inside (inside (skip (inside 0 (file_tree f)) (leaf 6 signed_data_id ∷ [])) (node 0xa0 (more (signed_data_tree f) none))) (signed_data_tree f)

abbrev pub certificates_at : File → ℕ
certificates_at f = skip (data_at f) (leaf 2 (f.version ∷ []) ∷ node 0x31 f.digests ∷ content_info_tree f ∷ [])

abbrev pub revocations_at : File → ℕ
revocations_at f = skip_maybe certificates_tree (certificates_at f) f.certificates

abbrev pub signers_at : File → ℕ
signers_at f = skip_maybe revocations_tree (revocations_at f) f.revocations
