-- The index of some elements is well formed.
use Rattle.std.proofs.Common.{ℕ, ◌+◌, ◌-◌, ◌*◌, ◌<◌, ◌≤◌, Bool, true, false, cond, List, [], ◌∷◌, map, length, Some, None, refl, ap, ◌∙◌, arith, lit≤}
use Rattle.std.proofs.lemmas.Nat.{mul-le}
use Rattle.std.proofs.lemmas.List.{length-map, append-nil}
use Rattle.std.proofs.lemmas.Bool.{cond_both}
use Rattle.std.specs.Str.{bytes_eq}
use Rattle.der.specs.Trees.{none, more, OneByteTag, Valid, Valids, framed}
use Rattle.fields.proofs.Tags.{seq}
use Rattle.model.specs.Parts.{row_of, maybe}
use Rattle.stamp_model.specs.declared.lists.ListName.{ListName}
use Rattle.stamp_model.specs.declared.lists.ListName.TheVariants.{Certificates, Revocations, Attributes}
use Rattle.stamp_model.specs.Algorithms.{algorithm_tree, sha256_name}
use Rattle.stamp_model.specs.Indexes.{entry_tree, entries_tree, index_tree, IndexShape, written_for, index_of}
use Rattle.index.specs.Laws.{Holdable}
use Rattle.index.specs.Sizes.{framed_size_of, list_size_of, algorithm_size_of}
use Rattle.index.proofs.Sizing.{length_few, framed_length, list_for, entries_length, contents_length, fields_are}

-- a header has four bytes at most
framed_few : (n : ℕ) → framed_size_of n ≤ n + 4
framed_few n = omega (arith, length_few n)

low_seq : OneByteTag 0x30
low_seq z = omega arith

module _ (D : List ℕ → List ℕ) (size : ℕ) (name : List ℕ) (h : Holdable D size name) where
  entries_few : (count : ℕ) → count ≤ 64 → count * framed_size_of size ≤ 4352
  entries_few count l = mul-le count (framed_size_of size) 64 68 l (omega (arith, framed_few size, h.small))

  list_few : (count : ℕ) → count ≤ 64 → list_size_of size count ≤ 4356
  list_few count l = omega (arith, framed_few (count * framed_size_of size), entries_few count l)

  algorithm_few : algorithm_size_of name ≤ 24
  algorithm_few =
      cond_both (bytes_eq name sha256_name) _ _ (λ (n : ℕ). n ≤ 24) (λ _. lit≤ tt)
      (λ _. omega (arith, framed_few (framed_size_of (length name)), framed_few (length name), h.named))

  entries_valid : (levels : ℕ) (es : List (List ℕ)) → 0 < levels → Valids (row_of entry_tree (map D es)) levels
  entries_valid levels [] l = tt
  entries_valid levels (e ∷ es) l = ((l, record { low = λ z. omega arith; short = omega (arith, h.sized e, h.small) }, refl), entries_valid levels es l)

  list_valid : (levels : ℕ) (es : List (List ℕ)) → 2 ≤ levels → length es ≤ 64 → Valid (entries_tree (map D es)) levels
  list_valid levels es l few = (
    omega arith,
    record { low = low_seq; short = omega (arith, entries_length D size h.sized es, entries_few (length es) few) },
    seq,
    entries_valid (levels - 1) es (omega arith),
  )

  algorithm_valid : (levels : ℕ) → 2 ≤ levels → Valid (algorithm_tree (record { name = name; null = false })) levels
  algorithm_valid levels l = (
    omega arith,
    record { low = low_seq; short = omega (arith, ap length (append-nil (framed 6 name)), framed_length 6 name, framed_few (length name), h.named) },
    seq,
    ((omega arith, record { low = λ z. omega arith; short = omega (arith, h.named) }, refl), tt),
  )

  module _ (elements : ListName → List (List ℕ)) (few : (list : ListName) → length (elements list) ≤ 64) where
    lists_valid : (levels : ℕ) → 2 ≤ levels → Valids (more (list_for D (elements Certificates)) (more (list_for D (elements Revocations)) (more (list_for D (elements Attributes)) none))) levels
    lists_valid levels l = (
      list_valid levels (elements Certificates) l (few Certificates),
      (list_valid levels (elements Revocations) l (few Revocations), (list_valid levels (elements Attributes) l (few Attributes), tt)),
    )

    fields_valid : (levels : ℕ) → 2 ≤ levels → (b : Bool) →
        Valids (maybe algorithm_tree (cond b None (Some (record { name = name; null = false })))
        (more (list_for D (elements Certificates)) (more (list_for D (elements Revocations)) (more (list_for D (elements Attributes)) none)))) levels
    fields_valid levels l true = lists_valid levels l
    fields_valid levels l false = (algorithm_valid levels l, lists_valid levels l)

    index_valid : (levels : ℕ) → 3 ≤ levels → Valid (index_tree (index_of D name elements)) levels
    index_valid levels l =
        let size_is = ap length (fields_are (written_for name) (list_for D (elements Certificates)) (list_for D (elements Revocations)) (list_for D (elements Attributes)))
        ∙ contents_length D size h.sized name elements in (
          omega arith,
          record {
            low = low_seq;
            short = omega (arith, size_is, algorithm_few, list_few (length (elements Certificates)) (few Certificates), list_few (length (elements Revocations)) (few Revocations), list_few (length (elements Attributes)) (few Attributes));
          },
          seq,
          fields_valid (levels - 1) (omega arith) (bytes_eq name sha256_name),
        )

    index_shape : IndexShape (index_of D name elements)
    index_shape Certificates = omega (arith, length-map (elements Certificates) D, few Certificates)
    index_shape Revocations = omega (arith, length-map (elements Revocations) D, few Revocations)
    index_shape Attributes = omega (arith, length-map (elements Attributes) D, few Attributes)

pub written_is_well : (D : List ℕ → List ℕ) (size : ℕ) (name : List ℕ) (elements : ListName → List (List ℕ)) (levels : ℕ) →
    Holdable D size name → ((list : ListName) → length (elements list) ≤ 64) → 3 ≤ levels →
    Valid (index_tree (index_of D name elements)) levels × IndexShape (index_of D name elements)
written_is_well D size name elements levels h few l = (index_valid D size name h elements few levels l, index_shape D size name h elements few)
