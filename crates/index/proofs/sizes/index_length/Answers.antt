use Rattle.std.proofs.Common.{◌≡◌, ℕ, List, sym, ap, ◌∙◌}
use Rattle.index.specs.Sizes.{framed_size_of, index_size}
use Rattle.index.proofs.Sizing.{index_length_lem}
use Rattle.index.proofs.sizes.index_length.Goals as goal

same_counts : (size : ℕ) (name : List ℕ) (c c' r r' u u' : ℕ) → c ≡ c' → r ≡ r' → u ≡ u' → index_size size name c r u ≡ index_size size name c' r' u'
same_counts size name c c' r r' u u' p q s = ap (λ (n : ℕ). index_size size name n r u) p ∙ ap (λ (n : ℕ). index_size size name c' n u) q ∙ ap (λ (n : ℕ). index_size size name c' r' n) s

pub returns : goal.returns
returns g c =
    let computed = c.framed_size.ensures.value ∙ ap framed_size_of c.contents_size.ensures.value in
    record {
      computed = computed;
      meaning = λ elements p q s.
          computed ∙ same_counts g.G.Digest.size g.G.Digest.oid _ _ _ _ _ _ (sym p) (sym q) (sym s)
          ∙ sym (index_length_lem g.G.Digest.value g.G.Digest.size (λ xs. (g.met.G.Digest.sized xs).0) g.G.Digest.oid elements);
    }
