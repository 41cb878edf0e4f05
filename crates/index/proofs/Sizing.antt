-- How many bytes the parts of an index have.
use Rattle.std.proofs.Common.{◌≡◌, ℕ, ◌+◌, ◌*◌, ◌≤◌, Bool, true, false, cond, ltb, List, [], ◌∷◌, ◌++◌, map, length, Some, None, Option, sym, refl, ap, ◌∙◌, suc-mul, arith, lit≤}
use Rattle.std.proofs.lemmas.List.{length-append, append-nil}
use Rattle.std.proofs.lemmas.Bool.{cond_both}
use Rattle.std.specs.Str.{bytes_eq}
use Rattle.der.specs.Trees.{Tree, none, more, length_bytes, header_bytes, framed, encode, encodes}
use Rattle.model.specs.Parts.{row_of, maybe}
use Rattle.stamp_model.specs.declared.lists.ListName.{ListName}
use Rattle.stamp_model.specs.declared.lists.ListName.TheVariants.{Certificates, Revocations, Attributes}
use Rattle.stamp_model.specs.Algorithms.{Algorithm, algorithm_tree, sha256_name}
use Rattle.stamp_model.specs.Indexes.{entry_tree, entries_tree, written_for, index_bytes, index_of}
use Rattle.index.specs.Sizes.{framed_size_of, list_size_of, algorithm_size_of, contents_size_of, index_size}

-- a length has three bytes at most
pub length_few : (n : ℕ) → length (length_bytes n) ≤ 3
length_few n =
    cond_both (ltb n 128) _ _ (λ (xs : List ℕ). length xs ≤ 3) (λ _. lit≤ tt) (λ _. cond_both (ltb n 256) _ _ (λ (xs : List ℕ). length xs ≤ 3) (λ _. lit≤ tt) (λ _. lit≤ tt))

pub framed_length : (tag : ℕ) (body : List ℕ) → length (framed tag body) ≡ framed_size_of (length body)
framed_length tag body = omega (arith, length-append (length_bytes (length body)) body)

-- the algorithm that is written, as bytes
abbrev pub algorithm_bytes : List ℕ → List ℕ
algorithm_bytes name = encodes (maybe algorithm_tree (written_for name) none)

pub algorithm_length : (name : List ℕ) → length (algorithm_bytes name) ≡ algorithm_size_of name
algorithm_length name = by (bytes_eq name sha256_name)
  where
    by : (b : Bool) → length (encodes (maybe algorithm_tree (cond b None (Some (record { name = name; null = false }))) none)) ≡ cond b 0 (framed_size_of (framed_size_of (length name)))
    by true = refl
    by false =
        ap length (append-nil (framed 0x30 (framed 6 name ++ []))) ∙ framed_length 0x30 (framed 6 name ++ [])
        ∙ ap framed_size_of (ap length (append-nil (framed 6 name)) ∙ framed_length 6 name)

-- under a digest of so many bytes
module _ (D : List ℕ → List ℕ) (size : ℕ) (sized : (xs : List ℕ) → length (D xs) ≡ size) where
  pub entries_length : (es : List (List ℕ)) → length (encodes (row_of entry_tree (map D es))) ≡ length es * framed_size_of size
  entries_length [] = omega arith
  entries_length (e ∷ es) =
      length-append (framed 4 (D e)) (encodes (row_of entry_tree (map D es)))
      ∙ ap (λ (n : ℕ). n + length (encodes (row_of entry_tree (map D es)))) (framed_length 4 (D e) ∙ ap framed_size_of (sized e))
      ∙ ap (λ (n : ℕ). framed_size_of size + n) (entries_length es) ∙ omega (arith, suc-mul (length es) (framed_size_of size))

  pub list_length : (es : List (List ℕ)) → length (encode (entries_tree (map D es))) ≡ list_size_of size (length es)
  list_length es = framed_length 0x30 (encodes (row_of entry_tree (map D es))) ∙ ap framed_size_of (entries_length es)

-- what is written for a name that is not left out
pub name_bytes : (name : List ℕ) (n : ℕ) → bytes_eq name sha256_name ≡ false → n ≡ framed_size_of (length name) → header_bytes 0x30 n ++ (header_bytes 6 (length name) ++ name) ≡ algorithm_bytes name
name_bytes name n q e =
    ap (λ (m : ℕ). 0x30 ∷ (length_bytes m ++ framed 6 name)) (e ∙ sym (framed_length 6 name))
    ∙ ap (framed 0x30) (sym (append-nil (framed 6 name))) ∙ sym (append-nil (framed 0x30 (framed 6 name ++ [])))
    ∙ ap (λ (b : Bool). encodes (maybe algorithm_tree (cond b None (Some (record { name = name; null = false }))) none)) (sym q)

-- the fields of an index, one behind another
pub fields_are : (o : Option Algorithm) (c r u : Tree) → encodes (maybe algorithm_tree o (more c (more r (more u none)))) ≡ encodes (maybe algorithm_tree o none) ++ (encode c ++ (encode r ++ encode u))
fields_are None c r u = ap (λ (x : List ℕ). encode c ++ (encode r ++ x)) (append-nil (encode u))
fields_are (Some a) c r u =
    ap (λ (x : List ℕ). encode (algorithm_tree a) ++ (encode c ++ (encode r ++ x))) (append-nil (encode u))
    ∙ ap (λ (x : List ℕ). x ++ (encode c ++ (encode r ++ encode u))) (sym (append-nil (encode (algorithm_tree a))))

-- the list for some elements
abbrev pub list_for : (List ℕ → List ℕ) → List (List ℕ) → Tree
list_for D es = entries_tree (map D es)

-- the contents of an index, as bytes
abbrev pub contents_bytes : (List ℕ → List ℕ) → List ℕ → (ListName → List (List ℕ)) → List ℕ
contents_bytes D name elements =
    algorithm_bytes name ++ (encode (list_for D (elements Certificates)) ++ (encode (list_for D (elements Revocations)) ++ encode (list_for D (elements Attributes))))

pub contents_are : (D : List ℕ → List ℕ) (name : List ℕ) (elements : ListName → List (List ℕ)) → index_bytes (index_of D name elements) ≡ framed 0x30 (contents_bytes D name elements)
contents_are D name elements =
    ap (framed 0x30) (fields_are (written_for name) (list_for D (elements Certificates)) (list_for D (elements Revocations)) (list_for D (elements Attributes)))

module _ (D : List ℕ → List ℕ) (size : ℕ) (sized : (xs : List ℕ) → length (D xs) ≡ size) (name : List ℕ) (elements : ListName → List (List ℕ)) where
  abbrev many : ListName → ℕ
  many list = length (elements list)

  pub contents_length : length (contents_bytes D name elements) ≡ contents_size_of size name (many Certificates) (many Revocations) (many Attributes)
  contents_length =
      let r = length-append (encode (list_for D (elements Revocations))) (encode (list_for D (elements Attributes))) in
      let c = length-append (encode (list_for D (elements Certificates))) (encode (list_for D (elements Revocations)) ++ encode (list_for D (elements Attributes))) in
      length-append (algorithm_bytes name) _
      ∙ omega (arith, c, r, algorithm_length name, list_length D size sized (elements Certificates), list_length D size sized (elements Revocations), list_length D size sized (elements Attributes))

  -- the length of an index is told by the number of elements in each list
  pub index_length_lem : length (index_bytes (index_of D name elements)) ≡ index_size size name (many Certificates) (many Revocations) (many Attributes)
  index_length_lem = ap length (contents_are D name elements) ∙ framed_length 0x30 (contents_bytes D name elements) ∙ ap framed_size_of contents_length
