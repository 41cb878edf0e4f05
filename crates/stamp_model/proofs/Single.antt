-- Bytes determine an index, and an attribute determines its stamp.
use Rattle.std.proofs.Common.{◌≡◌, ℕ, Bool, true, false, List, [], ◌∷◌, Some, None, Option, sym, refl, ap, ◌∙◌, arith}
use Rattle.std.proofs.lemmas.List.{append-nil}
use Rattle.der.specs.Trees.{Tree, none, more, Valid, encode}
use Rattle.der.proofs.Unique.{same_tree}
use Rattle.model.specs.Parts.{row_of, maybe, Attribute, Signer, plain, Content}
use Rattle.model.specs.Files.{File, file_tree}
use Rattle.model.proofs.Single.{rows_same, file_same}
use Rattle.stamp_model.specs.Algorithms.{Algorithm, null_part, algorithm_tree}
use Rattle.stamp_model.specs.Indexes.{Index, entry_tree, entries_tree, index_tree}
use Rattle.stamp_model.specs.Tokens.{Info, info_tree}
use Rattle.stamp_model.specs.Stamps.{carrying}
use Rattle.stamp_model.specs.Laws.{OneIndex, OneStamp}

-- two valid trees with the same bytes are the same
pub bytes_tree : (t t' : Tree) (levels : ℕ) → Valid t levels → Valid t' levels → encode t ≡ encode t' → t ≡ t'
bytes_tree t t' levels v v' e = (same_tree t t' levels [] [] v v' (append-nil (encode t) ∙ e ∙ sym (append-nil (encode t')))).0

null_same : (b b' : Bool) → null_part b ≡ null_part b' → b ≡ b'
null_same true true e = refl
null_same true false e = absurd (let z : ◌≡◌ {A = ℕ} 0 1 = cc in omega arith)
null_same false true e = absurd (let z : ◌≡◌ {A = ℕ} 0 1 = cc in omega arith)
null_same false false e = refl

pub algorithm_same : (a a' : Algorithm) → algorithm_tree a ≡ algorithm_tree a' → a ≡ a'
algorithm_same a a' e =
    let n : a.name ≡ a'.name = cc in
    let p : null_part a.null ≡ null_part a'.null = cc in
    let q = null_same a.null a'.null p in
    λ i. record { name = n i; null = q i }

entries_same : (es es' : List (List ℕ)) → entries_tree es ≡ entries_tree es' → es ≡ es'
entries_same es es' e =
    let r : row_of entry_tree es ≡ row_of entry_tree es' = cc in
    rows_same entry_tree (λ b b' p. let f : b ≡ b' = cc in f) es es' r

-- a list of entries is no algorithm: it begins with another tag, or is empty
entries_other : (es : List (List ℕ)) (a : Algorithm) → entries_tree es ≡ algorithm_tree a → ⊥
entries_other [] a e = let z : ◌≡◌ {A = ℕ} 0 1 = cc in omega arith
entries_other (x ∷ es) a e = let z : ◌≡◌ {A = ℕ} 4 6 = cc in omega arith

algorithms_same : (o o' : Option Algorithm) (cs rs us cs' rs' us' : List (List ℕ)) →
    maybe algorithm_tree o (more (entries_tree cs) (more (entries_tree rs) (more (entries_tree us) none)))
    ≡ maybe algorithm_tree o' (more (entries_tree cs') (more (entries_tree rs') (more (entries_tree us') none))) →
    (o ≡ o') × (cs ≡ cs') × (rs ≡ rs') × (us ≡ us')
algorithms_same None None cs rs us cs' rs' us' e =
    let c : entries_tree cs ≡ entries_tree cs' = cc in
    let r : entries_tree rs ≡ entries_tree rs' = cc in
    let a : entries_tree us ≡ entries_tree us' = cc in
    (refl, entries_same cs cs' c, entries_same rs rs' r, entries_same us us' a)
algorithms_same None (Some y) cs rs us cs' rs' us' e = let h : entries_tree cs ≡ algorithm_tree y = cc in absurd (entries_other cs y h)
algorithms_same (Some x) None cs rs us cs' rs' us' e = let h : entries_tree cs' ≡ algorithm_tree x = cc in absurd (entries_other cs' x h)
algorithms_same (Some x) (Some y) cs rs us cs' rs' us' e =
    let n : algorithm_tree x ≡ algorithm_tree y = cc in
    let c : entries_tree cs ≡ entries_tree cs' = cc in
    let r : entries_tree rs ≡ entries_tree rs' = cc in
    let a : entries_tree us ≡ entries_tree us' = cc in
    (ap Some (algorithm_same x y n), entries_same cs cs' c, entries_same rs rs' r, entries_same us us' a)

pub index_same : (x x' : Index) → index_tree x ≡ index_tree x' → x ≡ x'
index_same x x' e =
    let f : maybe algorithm_tree x.algorithm (more (entries_tree x.certificates) (more (entries_tree x.revocations) (more (entries_tree x.attributes) none)))
    ≡ maybe algorithm_tree x'.algorithm (more (entries_tree x'.certificates) (more (entries_tree x'.revocations) (more (entries_tree x'.attributes) none))) = cc in
    let s = algorithms_same x.algorithm x'.algorithm x.certificates x.revocations x.attributes x'.certificates x'.revocations x'.attributes f in
    let a = s.0 in
    let b = s.1 in
    let c = s.2 in
    let d = s.3 in
    λ i. record { algorithm = a i; certificates = b i; revocations = c i; attributes = d i }

pub one_index : OneIndex
one_index x x' levels v v' e = index_same x x' (bytes_tree (index_tree x) (index_tree x') levels v v' e)

info_same : (x x' : Info) → info_tree x ≡ info_tree x' → x ≡ x'
info_same x x' e =
    let p : x.policy ≡ x'.policy = cc in
    let a : algorithm_tree x.algorithm ≡ algorithm_tree x'.algorithm = cc in
    let m : x.imprint ≡ x'.imprint = cc in
    let r : x.rest ≡ x'.rest = cc in
    let n = algorithm_same x.algorithm x'.algorithm a in
    λ i. record { policy = p i; algorithm = n i; imprint = m i; rest = r i }

one_file : (t t' : File) (vs : List Tree) → vs ≡ file_tree t ∷ [] → vs ≡ file_tree t' ∷ [] → t ≡ t'
one_file t t' vs e e' = let q : file_tree t ≡ file_tree t' = cc in file_same t t' q

pub one_signer : (s s' : Signer) (ss : List Signer) → ss ≡ s ∷ [] → ss ≡ s' ∷ [] → s ≡ s'
one_signer s s' ss e e' = cc

one_info : (i i' : Info) (c : Content) → c ≡ plain (encode (info_tree i)) → c ≡ plain (encode (info_tree i')) → Valid (info_tree i) 32 → Valid (info_tree i') 32 → i ≡ i'
one_info i i' c e e' v v' =
    let b : encode (info_tree i) ≡ encode (info_tree i') = plain_same (sym e ∙ e') in
    info_same i i' (bytes_tree (info_tree i) (info_tree i') 32 v v' b)
  where
    plain_same : {bs bs' : List ℕ} → plain bs ≡ plain bs' → bs ≡ bs'
    plain_same p = cc

pub only_one : (a a' : Attribute) (u : Option (List Attribute)) → u ≡ Some (a ∷ []) → u ≡ Some (a' ∷ []) → a ≡ a'
only_one a a' u e e' = cc

pub only_value : (v v' : Tree) (vs : List Tree) → vs ≡ v ∷ [] → vs ≡ v' ∷ [] → v ≡ v'
only_value v v' vs e e' = cc

one_carried : (x x' : Index) (u : Option (List Attribute)) → u ≡ Some (carrying x ∷ []) → u ≡ Some (carrying x' ∷ []) → x ≡ x'
one_carried x x' u e e' =
    let a = only_one (carrying x) (carrying x') u e e' in
    index_same x x' (only_value (index_tree x) (index_tree x') (carrying x).values refl (ap (λ (y : Attribute). y.values) a))

pub one_stamp : OneStamp
one_stamp a st st' c c' =
    let t = one_file st.token st'.token a.values c.value c'.value in
    let s = one_signer st.signer st'.signer st'.token.signers (ap (λ (f : File). f.signers) (sym t) ∙ c.token.signer) c'.token.signer in
    let n = one_info st.info st'.info st'.token.content (ap (λ (f : File). f.content) (sym t) ∙ c.token.content) c'.token.content c.token.levels c'.token.levels in
    let x = one_carried st.index st'.index st'.signer.unsigned (ap (λ (y : Signer). y.unsigned) (sym s) ∙ c.unsigned) c'.unsigned in
    λ i. record { token = t i; signer = s i; info = n i; index = x i }
