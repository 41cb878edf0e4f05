-- The parts of a signed message, and the element that each is.
use Rattle.std.specs.Prelude.{ℕ, List, [], ◌∷◌, Some, None, Option}
use Rattle.der.specs.Trees.{Tree, leaf, node, Forest, none, more}

-- entries of a list back to back, each as its element
abbrev pub row_of : {M : Type 0} → (M → Tree) → List M → Forest
row_of tree [] = none
row_of tree (m ∷ ms) = more (tree m) (row_of tree ms)

-- elements back to back
abbrev pub row : List Tree → Forest
row ts = row_of (λ t. t) ts

-- a field that may be there, and what follows it
abbrev pub maybe : {M : Type 0} → (M → Tree) → Option M → Forest → Forest
maybe tree None rest = rest
maybe tree (Some m) rest = more (tree m) rest

-- a list that may be absent; an absent one is empty
abbrev pub given : {M : Type 0} → Option (List M) → List M
given None = []
given (Some ms) = ms

-- an attribute: the contents of its type's identifier, and its values
pub record Attribute : Type 0 where
  pub kind : List ℕ
  pub values : List Tree

abbrev pub attribute_tree : Attribute → Tree
attribute_tree a = node 0x30 (more (leaf 6 a.kind) (more (node 0x31 (row a.values)) none))

-- a signer is named by issuer and number, or by key
pub data Identifier : Type 0 where
  issuer : Forest → Identifier
  key : List ℕ → Identifier

-- the version goes with the kind of name
abbrev pub version_tree : Identifier → Tree
version_tree (issuer parts) = leaf 2 (1 ∷ [])
version_tree (key bytes) = leaf 2 (3 ∷ [])

abbrev pub identifier_tree : Identifier → Tree
identifier_tree (issuer parts) = node 0x30 parts
identifier_tree (key bytes) = leaf 0x80 bytes

-- an algorithm: its identifier's contents, and what follows
pub record Algorithm : Type 0 where
  pub name : List ℕ
  pub parameters : Forest

abbrev pub algorithm_tree : Algorithm → Tree
algorithm_tree a = node 0x30 (more (leaf 6 a.name) a.parameters)

-- a signer: six fields (the version is told by the identifier), and unsigned attributes if the field is there
pub record Signer : Type 0 where
  pub identifier : Identifier
  pub digest : Algorithm
  pub signed : List Attribute
  pub algorithm : Forest
  pub signature : List ℕ
  pub unsigned : Option (List Attribute)

abbrev pub signed_tree : List Attribute → Tree
signed_tree attributes = node 0xa0 (row_of attribute_tree attributes)

abbrev pub unsigned_tree : List Attribute → Tree
unsigned_tree attributes = node 0xa1 (row_of attribute_tree attributes)

-- the six fields, and what follows them
abbrev pub six_fields : Signer → Forest → Forest
six_fields s rest =
    more (version_tree s.identifier) (more (identifier_tree s.identifier) (more (algorithm_tree s.digest)
    (more (signed_tree s.signed) (more (node 0x30 s.algorithm) (more (leaf 4 s.signature) rest)))))

abbrev pub signer_tree : Signer → Tree
signer_tree s = node 0x30 (six_fields s (maybe unsigned_tree s.unsigned none))

-- the content: none, bytes, or bytes in segments
pub data Content : Type 0 where
  detached : Content
  plain : List ℕ → Content
  segmented : List (List ℕ) → Content

abbrev pub segment_tree : List ℕ → Tree
segment_tree bytes = leaf 4 bytes

abbrev pub content_parts : Content → Forest
content_parts detached = none
content_parts (plain bytes) = more (node 0xa0 (more (leaf 4 bytes) none)) none
content_parts (segmented segments) = more (node 0xa0 (more (node 0x24 (row_of segment_tree segments)) none)) none
