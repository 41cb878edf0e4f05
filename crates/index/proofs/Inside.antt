-- Elements that stand in a field, and the entries of an index.
use Rattle.std.proofs.Common.{◌≡◌, ℕ, ◌+◌, ◌-◌, ◌≤◌, List, [], ◌∷◌, map, length, Some, None, Option, sym, refl, ap, ◌∙◌, subst, arith}
use Rattle.std.proofs.lemmas.List.{append-nil}
use Rattle.der.specs.Spans.{part}
use Rattle.der.specs.Trees.{Tree, node, Forest, more, Valid, Valids, Constructed, encode, encodes}
use Rattle.fields.specs.Placed.{Placed, placed_from, nth, entries_for}
use Rattle.fields.specs.Rules.{head_size, body_size}
use Rattle.fields.proofs.Standing.{At, front_at}
use Rattle.fields.proofs.Tags.{seq}
use Rattle.model.specs.Parts.{row_of, row, maybe, Attribute, attribute_tree, Signer}
use Rattle.model.specs.Files.{File}
use Rattle.limits.proofs.Signing.{behind_at, within_at}
use Rattle.stamp_model.specs.declared.lists.ListName.{ListName}
use Rattle.stamp_model.specs.declared.lists.ListName.TheVariants.{Certificates, Revocations, Attributes}
use Rattle.stamp_model.specs.Algorithms.{Algorithm, algorithm_tree}
use Rattle.stamp_model.specs.Indexes.{Index, entry_tree, entries_tree, index_tree, index_bytes}
use Rattle.stamp_model.specs.Covering.{given, elements_of}
use Rattle.index.specs.declared.elements.Elements.{Elements}
use Rattle.index.specs.declared.elements.ElementLists.{ElementLists}
use Rattle.index.specs.Places.{past_algorithm, index_at}
use Rattle.index.specs.Standing.{Stand, StandLists, Lie, IsIn, AreEntries, encoded_by, trees_of, entry_trees}
use Rattle.index.proofs.EntryLimits.{three_lists, lists_first}

attributes_are : (ms : List Attribute) → map (λ a. encode (attribute_tree a)) ms ≡ map encode (map attribute_tree ms)
attributes_are [] = refl
attributes_are (m ∷ ms) = ap (λ (xs : List (List ℕ)). encode (attribute_tree m) ∷ xs) (attributes_are ms)

-- the elements of a file are the bytes of its trees
pub trees_tell : (f : File) (s : Signer) → elements_of f s ≡ encoded_by (trees_of f s)
trees_tell f s i list = by list i
  where
    by : (list : ListName) → elements_of f s list ≡ encoded_by (trees_of f s) list
    by Certificates = refl
    by Revocations = refl
    by Attributes = attributes_are (given s.unsigned)

placed_count : (p : ℕ) (ts : List Tree) → length (placed_from p (row ts)) ≡ length ts
placed_count p [] = refl
placed_count p (t ∷ ts) = let e = placed_count (p + head_size t + body_size t) ts in omega arith

-- elements stand where they lie
pub lie_stand : (levels : ℕ) (file : List ℕ) (at end count : ℕ) (elements : Elements) (ts : List Tree) → Lie file at end count elements →
    Valids (row ts) levels → part file at end ≡ encodes (row ts) → at ≤ end → end ≤ length file → count ≡ length ts → Stand elements ts
lie_stand levels file at end count elements ts l v b o i n = record {
  levels = levels;
  valid = v;
  bytes =
      ap (λ (x : List ℕ). part x elements.reader.at elements.reader.end) l.bytes ∙ ap (λ (k : ℕ). part file k elements.reader.end) l.at
      ∙ ap (part file at) l.end ∙ b;
  order = omega (arith, l.at, l.end, o);
  inside = omega (arith, l.end, i, ap length l.bytes);
  count = l.count ∙ n;
}

-- a field that is not there holds nothing
pub none_stand : (file : List ℕ) (elements : Elements) → IsIn file None elements → Stand elements []
none_stand file elements l = lie_stand 0 file 0 0 0 elements [] l tt refl (omega arith) (omega arith) refl

-- the elements in a field
pub field_stand : (levels : ℕ) (file : List ℕ) (at end tag : ℕ) (ts : List Tree) (rest : Forest) (elements : Elements) → At levels file at end (more (node tag (row ts)) rest) → Constructed tag →
    IsIn file (Some (entries_for (record { at = at; tree = node tag (row ts) }))) elements → Stand elements ts
field_stand levels file at end tag ts rest elements a k l =
    let inside = within_at a k in
    lie_stand (levels - 1) file _ _ _ elements ts l inside.valid inside.bytes inside.order inside.inside (placed_count _ ts)

rows_are : {M : Type 0} (tree : M → Tree) (ms : List M) → row_of tree ms ≡ row (map tree ms)
rows_are tree [] = refl
rows_are tree (m ∷ ms) = ap (λ (x : Forest). more (tree m) x) (rows_are tree ms)

-- the entries of a list of an index
entries_stand : (levels : ℕ) (file : List ℕ) (at end : ℕ) (es : List (List ℕ)) (rest : Forest) (elements : Elements) → At levels file at end (more (entries_tree es) rest) →
    IsIn file (Some (entries_for (record { at = at; tree = entries_tree es }))) elements → Stand elements (map entry_tree es)
entries_stand levels file at end es rest elements a l =
    let e = rows_are entry_tree es in
    field_stand levels file at end 0x30 (map entry_tree es) rest elements (subst (λ (x : Forest). At levels file at end (more (node 0x30 x) rest)) e a) seq
    (subst (λ (x : Forest). IsIn file (Some (entries_for (record { at = at; tree = node 0x30 x }))) elements) e l)

-- the lists are the first of these elements
pub record ArePlaced (file : List ℕ) (xs : List Placed) (lists : ElementLists) : Type 0 where
  pub certificates : IsIn file (Some (entries_for (nth 0 xs))) lists.certificates
  pub revocations : IsIn file (Some (entries_for (nth 1 xs))) lists.revocations
  pub attributes : IsIn file (Some (entries_for (nth 2 xs))) lists.attributes

module _ (x : Index) (file : List ℕ) (levels end : ℕ) (lists : ElementLists) where
  abbrev trees : Forest
  trees = three_lists x.certificates x.revocations x.attributes

  lists_stand : (at : ℕ) → At levels file at end trees → ArePlaced file (placed_from at trees) lists → StandLists lists (entry_trees x)
  lists_stand at a p Certificates = entries_stand levels file _ end x.certificates _ lists.certificates a p.certificates
  lists_stand at a p Revocations = entries_stand levels file _ end x.revocations _ lists.revocations (behind_at a) p.revocations
  lists_stand at a p Attributes = entries_stand levels file _ end x.attributes _ lists.attributes (behind_at (behind_at a)) p.attributes

  -- behind an algorithm that may be there
  fields_stand : (at : ℕ) (o : Option Algorithm) → At levels file at end (maybe algorithm_tree o trees) →
      ArePlaced file (past_algorithm (placed_from at (maybe algorithm_tree o trees))) lists → StandLists lists (entry_trees x)
  fields_stand at None a p = lists_stand at a (subst (λ (xs : List Placed). ArePlaced file xs lists) (lists_first x.certificates x.revocations x.attributes at) p)
  fields_stand at (Some o) a p = lists_stand _ (behind_at a) p

-- the entries of an index stand where its record says
pub index_stand : (file : List ℕ) (x : Index) (levels at end : ℕ) (lists : ElementLists) → Valid (index_tree x) levels → end ≤ length file → part file at end ≡ index_bytes x →
    AreEntries file (index_at at (index_tree x)) lists → StandLists lists (entry_trees x)
index_stand file x levels at end lists v l e p =
    fields_stand x file _ _ lists _ x.algorithm (within_at (front_at levels file at end (index_tree x) [] v l (append-nil (index_bytes x) ∙ sym e)) seq)
    (record { certificates = p.certificates; revocations = p.revocations; attributes = p.attributes })
