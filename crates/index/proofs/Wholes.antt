-- An index that is put part by part is written whole.
use Rattle.std.proofs.Common.{◌≡◌, ℕ, List, ◌∷◌, ◌++◌, length, sym, ap, ◌∙◌}
use Rattle.std.proofs.lemmas.List.{length-map}
use Rattle.der.specs.Trees.{Tree, length_bytes, header_bytes, encode}
use Rattle.stamp_model.specs.declared.lists.ListName.{ListName}
use Rattle.stamp_model.specs.declared.lists.ListName.TheVariants.{Certificates, Revocations, Attributes}
use Rattle.stamp_model.specs.Indexes.{index_bytes, index_of}
use Rattle.index.specs.Entries.{lists_bytes}
use Rattle.index.specs.Puts.{Put, Written}
use Rattle.index.specs.Sizes.{contents_size_of}
use Rattle.index.specs.Standing.{encoded_by}
use Rattle.index.proofs.Areas.{put_then, put_same, put_whole}
use Rattle.index.proofs.Sizing.{algorithm_bytes, contents_bytes, contents_length, contents_are}

module _ (D : List ℕ → List ℕ) (size : ℕ) (sized : (xs : List ℕ) → length (D xs) ≡ size) (name : List ℕ) (trees : ListName → List Tree) where
  -- as many bytes of contents as the elements call for
  counted : (n c r u : ℕ) → n ≡ contents_size_of size name c r u → c ≡ length (trees Certificates) → r ≡ length (trees Revocations) → u ≡ length (trees Attributes) →
      n ≡ length (contents_bytes D name (encoded_by trees))
  counted n c r u e p q s =
      e ∙ ap (λ (m : ℕ). contents_size_of size name m r u) (p ∙ sym (length-map (trees Certificates) encode))
      ∙ ap (λ (m : ℕ). contents_size_of size name (length (encoded_by trees Certificates)) m u) (q ∙ sym (length-map (trees Revocations) encode))
      ∙ ap (contents_size_of size name (length (encoded_by trees Certificates)) (length (encoded_by trees Revocations))) (s ∙ sym (length-map (trees Attributes) encode))
      ∙ sym (contents_length D size sized name (encoded_by trees))

  pub written_whole : (was first second is name' : List ℕ) (n c r u inside behind end : ℕ) → name' ≡ name →
      n ≡ contents_size_of size name c r u → c ≡ length (trees Certificates) → r ≡ length (trees Revocations) → u ≡ length (trees Attributes) →
      Put was first 0 (header_bytes 0x30 n) inside → Put first second inside (algorithm_bytes name') behind → Put second is behind (lists_bytes D trees) end →
      Written (index_bytes (index_of D name (encoded_by trees))) was is end
  written_whole was first second is name' n c r u inside behind end m e p q s header algorithm lists =
      put_whole was is _ end (put_same was is _ (index_bytes (index_of D name (encoded_by trees))) 0 end
      (ap (λ (x : List ℕ). header_bytes 0x30 n ++ (algorithm_bytes x ++ lists_bytes D trees)) m
      ∙ ap (λ (k : ℕ). 0x30 ∷ (length_bytes k ++ contents_bytes D name (encoded_by trees))) (counted n c r u e p q s)
      ∙ sym (contents_are D name (encoded_by trees)))
      (put_then was first is _ _ 0 inside end header (put_then first second is _ _ inside behind end algorithm lists)))
