-- A file: a signed message as its parts, and its bytes.
use Rattle.std.specs.Prelude.{ℕ, List, [], ◌∷◌, Option}
use Rattle.der.specs.Trees.{Tree, leaf, node, Forest, none, more, encode}
use Rattle.cms.specs.Identifiers.{signed_data_id}
use Rattle.model.specs.Parts.{row, row_of, maybe, Signer, signer_tree, Content, content_parts}

-- an absent list is not an empty one
pub record File : Type 0 where
  pub version : ℕ
  pub digests : Forest
  pub content_type : List ℕ
  pub content : Content
  pub certificates : Option (List Tree)
  pub revocations : Option (List Tree)
  pub signers : List Signer

abbrev pub certificates_tree : List Tree → Tree
certificates_tree ts = node 0xa0 (row ts)

abbrev pub revocations_tree : List Tree → Tree
revocations_tree ts = node 0xa1 (row ts)

abbrev pub content_type_tree : File → Tree
content_type_tree f = leaf 6 f.content_type

abbrev pub content_info_tree : File → Tree
content_info_tree f = node 0x30 (more (content_type_tree f) (content_parts f.content))

abbrev pub signers_tree : File → Tree
signers_tree f = node 0x31 (row_of signer_tree f.signers)

abbrev pub signed_data_tree : File → Tree
signed_data_tree f =
    node 0x30 (more (leaf 2 (f.version ∷ [])) (more (node 0x31 f.digests) (more (content_info_tree f)
    (maybe certificates_tree f.certificates (maybe revocations_tree f.revocations (more (signers_tree f) none))))))

abbrev pub file_tree : File → Tree
file_tree f = node 0x30 (more (leaf 6 signed_data_id) (more (node 0xa0 (more (signed_data_tree f) none)) none))

-- the bytes of a file
abbrev pub file_bytes : File → List ℕ
file_bytes f = encode (file_tree f)
