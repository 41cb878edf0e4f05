-- An imprint input tells its parts: each element says itself where it ends, and digests have one length.
use Rattle.std.proofs.Common.{◌≡◌, ℕ, ◌-◌, List, [], ◌∷◌, ◌++◌, length, take, drop, Some, None, Option, sym, refl, ap, ◌∙◌, arith}
use Rattle.std.specs.List.{AllZip, AllByRecursion}
use Rattle.std.proofs.ByRecursion.{all-has}
use Rattle.std.proofs.lemmas.List.{append_assoc, take_at, drop_at}
use Rattle.der.specs.Trees.{Tree, leaf, node, Forest, none, more, Valid, Valids, encode, encodes}
use Rattle.der.proofs.Unique.{same_tree}
use Rattle.model.specs.Parts.{row_of, row, maybe, Signer, version_tree, identifier_tree, algorithm_tree, signed_tree, signer_tree}
use Rattle.model.specs.Files.{File, content_type_tree, certificates_tree, revocations_tree, signers_tree, file_tree}
use Rattle.stamp_model.specs.Covering.{six_bytes}
use Rattle.stamp_model.specs.Laws.{SignerOf, SameFields, PartsTell}

-- what is behind a field that may be there is valid
behind_maybe : {M : Type 0} (tree : M → Tree) (o : Option M) (rest : Forest) (levels : ℕ) → Valids (maybe tree o rest) levels → Valids rest levels
behind_maybe tree None rest levels v = v
behind_maybe tree (Some m) rest levels v = v.1

row_valid : {M : Type 0} (tree : M → Tree) (ms : List M) (levels : ℕ) → Valids (row_of tree ms) levels → AllByRecursion (λ m. Valid (tree m) levels) ms
row_valid tree [] levels v = tt
row_valid tree (m ∷ ms) levels v = (v.0, row_valid tree ms levels v.1)

-- the content type of a file that is well formed, and the fields of its signers
pub type_valid : (f : File) → Valid (file_tree f) 32 → Valid (content_type_tree f) 28
type_valid f v = v.3.1.0.3.0.3.1.1.0.3.0

pub signers_valid : (f : File) (levels : ℕ) → Valid (file_tree f) levels → Valids (row_of signer_tree f.signers) (levels - 1 - 1 - 1 - 1)
signers_valid f levels v =
    let fields = v.3.1.0.3.0.3.1.1.1 in
    (behind_maybe revocations_tree f.revocations (more (signers_tree f) none) (levels - 1 - 1 - 1) (behind_maybe certificates_tree f.certificates _ (levels - 1 - 1 - 1) fields)).0.3

pub signer_valid : (f : File) (s : Signer) → SignerOf f s → Valid (signer_tree s) 28
signer_valid f s k = all-has (λ x. Valid (signer_tree x) 28) f.signers s (row_valid signer_tree f.signers 28 (signers_valid f 32 k.valid)) k.has

-- the same front of one length leaves the same rest
pub same_front : (xs xs' rest rest' : List ℕ) → length xs ≡ length xs' → xs ++ rest ≡ xs' ++ rest' → (xs ≡ xs') × (rest ≡ rest')
same_front xs xs' rest rest' l e = (
  sym (take_at xs rest (length xs') l) ∙ ap (take (length xs')) e ∙ take_at xs' rest' (length xs') refl,
  sym (drop_at xs rest (length xs') l) ∙ ap (drop (length xs')) e ∙ drop_at xs' rest' (length xs') refl,
)

-- as many trees on either side, before other bytes
trees_tell : (ts ts' : List Tree) (levels : ℕ) (x x' : List ℕ) → length ts ≡ length ts' → AllByRecursion (λ t. Valid t levels) ts → AllByRecursion (λ t. Valid t levels) ts' →
    encodes (row ts) ++ x ≡ encodes (row ts') ++ x' → AllZip (λ t t'. encode t ≡ encode t') ts ts' × (x ≡ x')
trees_tell [] [] levels x x' l v v' e = (tt, e)
trees_tell [] (t' ∷ ts') levels x x' l v v' e = absurd (omega arith)
trees_tell (t ∷ ts) [] levels x x' l v v' e = absurd (omega arith)
trees_tell (t ∷ ts) (t' ∷ ts') levels x x' l v v' e =
    let first = same_tree t t' levels (encodes (row ts) ++ x) (encodes (row ts') ++ x') v.0 v'.0
    (sym (append_assoc (encode t) (encodes (row ts)) x) ∙ e ∙ append_assoc (encode t') (encodes (row ts')) x') in
    let rest = trees_tell ts ts' levels x x' (omega arith) v.1 v'.1 first.1 in
    ((ap encode first.0, rest.0), rest.1)

-- the six fields as a list
abbrev six_trees : Signer → List Tree
six_trees s =
    version_tree s.identifier ∷ identifier_tree s.identifier ∷ algorithm_tree s.digest ∷ signed_tree s.signed ∷ node 0x30 s.algorithm ∷ leaf 4 s.signature ∷ []

six_valid : (s : Signer) → Valid (signer_tree s) 28 → AllByRecursion (λ t. Valid t 27) (six_trees s)
six_valid s v = let w = v.3 in (w.0, (w.1.0, (w.1.1.0, (w.1.1.1.0, (w.1.1.1.1.0, (w.1.1.1.1.1.0, tt))))))

fields_tell : (s s' : Signer) (x x' : List ℕ) → Valid (signer_tree s) 28 → Valid (signer_tree s') 28 → six_bytes s ++ x ≡ six_bytes s' ++ x' → SameFields s s' × (x ≡ x')
fields_tell s s' x x' v v' e =
    let r = trees_tell (six_trees s) (six_trees s') 27 x x' refl (six_valid s v) (six_valid s' v') e in
    let a = r.0 in
    (record { version = a.0; identifier = a.1.0; digest = a.1.1.0; signed = a.1.1.1.0; algorithm = a.1.1.1.1.0; signature = a.1.1.1.1.1.0 }, r.1)

six_made : (s s' : Signer) → SameFields s s' → six_bytes s ≡ six_bytes s'
six_made s s' k =
    let a = k.version in
    let b = k.identifier in
    let c = k.digest in
    let d = k.signed in
    let g = k.algorithm in
    let h = k.signature in
    cc

pub parts_tell : PartsTell
parts_tell f f' s s' digest digest' x x' k k' l = (
  λ e.
      let t = same_tree (content_type_tree f) (content_type_tree f') 28 (digest ++ (six_bytes s ++ x)) (digest' ++ (six_bytes s' ++ x')) (type_valid f k.valid) (type_valid f' k'.valid) e in
      let d = same_front digest digest' (six_bytes s ++ x) (six_bytes s' ++ x') l t.1 in
      let r = fields_tell s s' x x' (signer_valid f s k) (signer_valid f' s' k') d.1 in
      record { content_type = ap encode t.0; content = d.0; fields = r.0; index = r.1 },
  λ p.
      let a = p.content_type in
      let b = p.content in
      let c = six_made s s' p.fields in
      let d = p.index in
      cc,
)
