-- A stamp is one, and has no fault.
use Rattle.std.proofs.Common.{◌≡◌, ℕ, ◌-◌, List, [], ◌∷◌, length, Some, None, Option, sym, refl, ap, ◌∙◌, subst, arith}
use Rattle.der.specs.Trees.{none, Valid, Valids, encode}
use Rattle.der.proofs.Unique.{no_fault_at}
use Rattle.model.specs.Parts.{row_of, maybe, Attribute, Signer, signer_tree, unsigned_tree}
use Rattle.model.specs.Files.{File, file_tree}
use Rattle.message.specs.declared.fault.MessageFault.TheVariants.{Element, Field, Count}
use Rattle.message.proofs.Exact.{one_formed, tree_starts, no_break_there}
use Rattle.stamp_model.specs.Indexes.{Index, index_tree}
use Rattle.stamp_model.specs.Tokens.{Info, token_settings}
use Rattle.stamp_model.specs.Stamps.{index_kind, carrying, Stamp}
use Rattle.stamp_model.proofs.Telling.{signers_valid}
use Rattle.stamp_model.proofs.Single.{one_index, one_stamp, one_signer, only_one, only_value}
use Rattle.index.specs.Grammar.{index_break}
use Rattle.index.specs.Limits.{first_too_many_entry_of}
use Rattle.index.proofs.IndexTrees.{index_has_no_break}
use Rattle.index.proofs.EntryLimits.{none_too_many}
use Rattle.token.specs.Tokens.{IsToken}
use Rattle.token.proofs.Exact.{token_never_both}
use Rattle.stamp.specs.declared.parts.StampFault.TheVariants.{Token as InToken, Carried as InCarried, Index as InIndex}
use Rattle.stamp.specs.Grammar.{carried}
use Rattle.stamp.specs.Stamped.{IsStamp, carried_place}
use Rattle.stamp.specs.Laws.{NeverMisindexed, NeverBoth, NeverBurdened, OneStamp}
use Rattle.stamp.proofs.CarriedTrees.{carried_kept}

not_both : (o : Option ℕ) (p : ℕ) → o ≡ Some p → o ≡ None → ⊥
not_both o p a b = let z : ◌≡◌ {A = ℕ} 0 1 = cc in omega arith

pub never_misindexed : NeverMisindexed
never_misindexed levels bytes (Element fault) x u k = no_fault_at levels bytes 0 (length bytes) fault u (tree_starts levels bytes (index_tree x) k.written.valid k.written.bytes_are)
never_misindexed levels bytes (Field p) x u k = no_break_there index_break levels bytes (index_tree x) p k.written.valid k.written.bytes_are (index_has_no_break 0 x) u
never_misindexed levels bytes (Count p) x (y, w, e) k =
    let same = one_index y x levels w.valid k.written.valid (sym w.bytes_are ∙ k.written.bytes_are) in
    not_both (first_too_many_entry_of 0 x) p (ap (first_too_many_entry_of 0) (sym same) ∙ e) ((none_too_many 0 x).1 k.shape)

-- two tokens of the same bytes have the same signer
same_signer : (bytes : List ℕ) (f f' : File) (s s' : Signer) (i i' : Info) → IsToken 24 bytes f s i → IsToken 24 bytes f' s' i' → (f ≡ f') × (s ≡ s')
same_signer bytes f f' s s' i i' k k' =
    let e = one_formed token_settings token_settings 24 bytes f f' k.formed k'.formed in
    (e, one_signer s s' f'.signers (ap (λ (x : File). x.signers) (sym e) ∙ k.token.signer) k'.token.signer)

-- an index inside a valid token is valid
carried_valid : (u : Option (List Attribute)) (x : Index) (levels : ℕ) → u ≡ Some (carrying x ∷ []) → Valids (maybe unsigned_tree u none) levels → Valid (index_tree x) (levels - 1 - 1 - 1)
carried_valid u x levels e v = (subst (λ (y : Option (List Attribute)). Valids (maybe unsigned_tree y none) levels) e v).0.3.0.3.1.0.3.0

pub index_valid : (bytes : List ℕ) (st : Stamp) → IsStamp bytes st → Valid (index_tree st.index) 16
index_valid bytes st k =
    let signers = signers_valid st.token 24 k.token.formed.valid in
    let signer = (subst (λ (ss : List Signer). Valids (row_of signer_tree ss) 20) k.token.token.signer signers).0 in
    carried_valid st.signer.unsigned st.index 19 k.unsigned signer.3.1.1.1.1.1.1

pub never_both : NeverBoth
never_both bytes (InToken fault) st u k = token_never_both 24 bytes fault st.token st.signer st.info u k.token
never_both bytes (InCarried p) st u k =
    let e = same_signer bytes u.file st.token u.signer st.signer u.info st.info u.token k.token in
    not_both (carried (carried_place u.file u.signer) (maybe unsigned_tree u.signer.unsigned none)) p u.first
    (ap (λ (o : Option (List Attribute)). carried (carried_place u.file u.signer) (maybe unsigned_tree o none)) (ap (λ (y : Signer). y.unsigned) e.1 ∙ k.unsigned) ∙ carried_kept (carried_place u.file u.signer) (index_tree st.index))
never_both bytes (InIndex at fault) st u k =
    let e = same_signer bytes u.file st.token u.signer st.signer u.info st.info u.token k.token in
    let a = only_one (record { kind = index_kind; values = u.value ∷ [] }) (carrying st.index) st.signer.unsigned (ap (λ (y : Signer). y.unsigned) (sym e.1) ∙ u.unsigned) k.unsigned in
    let v : u.value ≡ index_tree st.index = only_value u.value (index_tree st.index) (u.value ∷ []) refl (ap (λ (y : Attribute). y.values) a) in
    never_misindexed 16 (encode u.value) fault st.index u.none_there (record {
      written = record { valid = index_valid bytes st k; bytes_are = ap encode v };
      shape = k.index;
    })

pub stamp_one : OneStamp
stamp_one bytes st st' k k' =
    let e = one_formed token_settings token_settings 24 bytes st.token st'.token k.token.formed k'.token.formed in
    one_stamp (record { kind = []; values = file_tree st'.token ∷ [] }) st st'
    (record { token = k.token.token; value = ap (λ (f : File). file_tree f ∷ []) (sym e); unsigned = k.unsigned; index = k.index })
    (record { token = k'.token.token; value = refl; unsigned = k'.unsigned; index = k'.index })

pub never_burdened : NeverBurdened
never_burdened bytes (InToken fault) f s i u k n = token_never_both 24 bytes fault f s i u k
never_burdened bytes (InCarried p) f s i u k n =
    let e = same_signer bytes u.file f u.signer s u.info i u.token k in
    let q : Some u.attributes ≡ None = sym u.unsigned ∙ ap (λ (y : Signer). y.unsigned) e.1 ∙ n in
    let z : ◌≡◌ {A = ℕ} 0 1 = cc in omega arith
never_burdened bytes (InIndex at fault) f s i u k n = u
