-- What a stamp stands for, and when it covers.
use Rattle.std.specs.Prelude.{◌≡◌, ℕ, List, ◌++◌, map}
use Rattle.std.specs.List.{ContainsAt as Has, AllByRecursion}
use Rattle.der.specs.Trees.{none, encode, encodes}
pub use Rattle.model.specs.Parts.{given}
use Rattle.model.specs.Parts.{attribute_tree, Signer, six_fields}
use Rattle.model.specs.Files.{File, content_type_tree}
use Rattle.stamp_model.specs.declared.lists.ListName.{ListName}
use Rattle.stamp_model.specs.declared.lists.ListName.TheVariants.{Certificates, Revocations, Attributes}
use Rattle.stamp_model.specs.Indexes.{entries_for, index_bytes}
use Rattle.stamp_model.specs.Stamps.{Stamp}

-- the elements of a list of a file and one of its signers, in file order, each with its header
abbrev pub elements_of : File → Signer → ListName → List (List ℕ)
elements_of f s Certificates = map encode (given f.certificates)
elements_of f s Revocations = map encode (given f.revocations)
elements_of f s Attributes = map (λ a. encode (attribute_tree a)) (given s.unsigned)

-- a signer's six fields as they stand
abbrev pub six_bytes : Signer → List ℕ
six_bytes s = encodes (six_fields s none)

-- the imprint input: content type, digest of the content, six fields, and the index as carried
abbrev pub input_of : File → Signer → List ℕ → List ℕ → List ℕ
input_of f s contentDigest index = encode (content_type_tree f) ++ (contentDigest ++ (six_bytes s ++ index))

-- the imprint input of a stamp of signer s, for a content under a digest D
abbrev pub stamp_input : (List ℕ → List ℕ) → List ℕ → File → Signer → Stamp → List ℕ
stamp_input D content f s st = input_of f s (D content) (index_bytes st.index)

-- some element has this digest
abbrev pub Matched : (List ℕ → List ℕ) → List (List ℕ) → List ℕ → Type 0
Matched D elements entry = Has (map D elements) entry

-- a stamp covers: its imprint is the digest of its input, and every entry has its element in its list
pub record Covers (D : List ℕ → List ℕ) (content : List ℕ) (f : File) (s : Signer) (st : Stamp) : Type 0 where
  pub agrees : st.info.imprint ≡ D (stamp_input D content f s st)
  pub matched : (list : ListName) → AllByRecursion (Matched D (elements_of f s list)) (entries_for st.index list)
