-- An index: digests of the elements of three lists, and the digest that made them.
use Rattle.std.specs.Prelude.{ℕ, ◌≤◌, false, cond, List, map, length, Some, None, Option}
use Rattle.std.specs.Str.{bytes_eq}
use Rattle.der.specs.Trees.{Tree, leaf, node, none, more, encode}
use Rattle.model.specs.Parts.{row_of, maybe}
use Rattle.stamp_model.specs.declared.lists.ListName.{ListName}
use Rattle.stamp_model.specs.declared.lists.ListName.TheVariants.{Certificates, Revocations, Attributes}
use Rattle.stamp_model.specs.Algorithms.{Algorithm, algorithm_tree, sha256_name}

-- entries are any bytes, list by list; without an algorithm the digest is SHA-256
pub record Index : Type 0 where
  pub algorithm : Option Algorithm
  pub certificates : List (List ℕ)
  pub revocations : List (List ℕ)
  pub attributes : List (List ℕ)

-- the entries for a list
abbrev pub entries_for : Index → ListName → List (List ℕ)
entries_for x Certificates = x.certificates
entries_for x Revocations = x.revocations
entries_for x Attributes = x.attributes

abbrev pub entry_tree : List ℕ → Tree
entry_tree entry = leaf 4 entry

abbrev pub entries_tree : List (List ℕ) → Tree
entries_tree entries = node 0x30 (row_of entry_tree entries)

abbrev pub index_tree : Index → Tree
index_tree x =
    node 0x30 (maybe algorithm_tree x.algorithm
    (more (entries_tree x.certificates) (more (entries_tree x.revocations) (more (entries_tree x.attributes) none))))

abbrev pub index_bytes : Index → List ℕ
index_bytes x = encode (index_tree x)

-- at most 64 entries for each list
abbrev pub IndexShape : Index → Type 0
IndexShape x = (list : ListName) → length (entries_for x list) ≤ 64

-- the name of the digest that an index means
abbrev pub meant_told_by : Option Algorithm → List ℕ
meant_told_by None = sha256_name
meant_told_by (Some a) = a.name

-- the algorithm as it is written for a digest of this name: left out for SHA-256, else without parameters
abbrev pub written_for : List ℕ → Option Algorithm
written_for name = cond (bytes_eq name sha256_name) None (Some (record { name = name; null = false }))

-- the index of some elements, list by list, under a digest D of this name
abbrev pub index_of : (List ℕ → List ℕ) → List ℕ → (ListName → List (List ℕ)) → Index
index_of D name elements = record {
  algorithm = written_for name;
  certificates = map D (elements Certificates);
  revocations = map D (elements Revocations);
  attributes = map D (elements Attributes);
}
