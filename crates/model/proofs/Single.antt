-- The bytes of a file determine it.
use Rattle.std.proofs.Common.{◌≡◌, ℕ, List, [], ◌∷◌, Some, None, Option, sym, refl, ap, ◌∙◌, arith}
use Rattle.std.proofs.lemmas.List.{append-nil}
use Rattle.der.specs.Trees.{Tree, node, Forest, none, more, Valid, tag_of}
use Rattle.der.proofs.Unique.{same_tree}
use Rattle.model.specs.Parts.{row_of, row, maybe, Attribute, attribute_tree, Identifier, issuer, key, version_tree, identifier_tree, Algorithm, algorithm_tree, Signer, unsigned_tree, signer_tree, Content, detached, plain, segmented, segment_tree, content_parts}
use Rattle.model.specs.Files.{File, certificates_tree, revocations_tree, signers_tree, signed_data_tree, file_tree, file_bytes}

-- what the first element of a forest is, and what is behind it
abbrev head_tag : Forest → ℕ
head_tag none = 0
head_tag (more t ts) = tag_of t

pub rows_same : {M : Type 0} (tree : M → Tree) → ((m m' : M) → tree m ≡ tree m' → m ≡ m') → (ms ms' : List M) → row_of tree ms ≡ row_of tree ms' → ms ≡ ms'
rows_same tree one [] [] e = refl
rows_same tree one [] (m ∷ ms) e = absurd (let z : ◌≡◌ {A = ℕ} 0 1 = cc in omega arith)
rows_same tree one (m ∷ ms) [] e = absurd (let z : ◌≡◌ {A = ℕ} 0 1 = cc in omega arith)
rows_same tree one (m ∷ ms) (m' ∷ ms') e =
    let p : tree m ≡ tree m' = cc in
    let q : row_of tree ms ≡ row_of tree ms' = cc in
    let a = one m m' p in
    let b = rows_same tree one ms ms' q in
    cc

row_same : (ts ts' : List Tree) → row ts ≡ row ts' → ts ≡ ts'
row_same ts ts' e = rows_same (λ t. t) (λ t t' p. p) ts ts' e

pub attribute_same : (a a' : Attribute) → attribute_tree a ≡ attribute_tree a' → a ≡ a'
attribute_same a a' e =
    let k : a.kind ≡ a'.kind = cc in
    let v : row a.values ≡ row a'.values = cc in
    let w = row_same a.values a'.values v in
    λ i. record { kind = k i; values = w i }

identifier_same : (x y : Identifier) → version_tree x ≡ version_tree y → identifier_tree x ≡ identifier_tree y → x ≡ y
identifier_same (issuer p) (issuer q) v e = let f : p ≡ q = cc in ap issuer f
identifier_same (issuer p) (key q) v e = absurd (omega (arith, ap tag_of e))
identifier_same (key p) (issuer q) v e = absurd (omega (arith, ap tag_of e))
identifier_same (key p) (key q) v e = let f : p ≡ q = cc in ap key f

algorithm_same : (a a' : Algorithm) → algorithm_tree a ≡ algorithm_tree a' → a ≡ a'
algorithm_same a a' e =
    let n : a.name ≡ a'.name = cc in
    let p : a.parameters ≡ a'.parameters = cc in
    λ i. record { name = n i; parameters = p i }

unsigned_same : (u u' : Option (List Attribute)) → maybe unsigned_tree u none ≡ maybe unsigned_tree u' none → u ≡ u'
unsigned_same None None e = refl
unsigned_same None (Some a) e = absurd (let z : ◌≡◌ {A = ℕ} 0 1 = cc in omega arith)
unsigned_same (Some a) None e = absurd (let z : ◌≡◌ {A = ℕ} 0 1 = cc in omega arith)
unsigned_same (Some a) (Some a') e =
    let r : row_of attribute_tree a ≡ row_of attribute_tree a' = cc in
    ap Some (rows_same attribute_tree attribute_same a a' r)

pub signer_same : (s s' : Signer) → signer_tree s ≡ signer_tree s' → s ≡ s'
signer_same s s' e =
    let v : version_tree s.identifier ≡ version_tree s'.identifier = cc in
    let i₁ : identifier_tree s.identifier ≡ identifier_tree s'.identifier = cc in
    let d₁ : algorithm_tree s.digest ≡ algorithm_tree s'.digest = cc in
    let a₁ : row_of attribute_tree s.signed ≡ row_of attribute_tree s'.signed = cc in
    let g : s.algorithm ≡ s'.algorithm = cc in
    let h : s.signature ≡ s'.signature = cc in
    let u₁ : maybe unsigned_tree s.unsigned none ≡ maybe unsigned_tree s'.unsigned none = cc in
    let i₂ = identifier_same s.identifier s'.identifier v i₁ in
    let d₂ = algorithm_same s.digest s'.digest d₁ in
    let a₂ = rows_same attribute_tree attribute_same s.signed s'.signed a₁ in
    let u₂ = unsigned_same s.unsigned s'.unsigned u₁ in
    λ i. record { identifier = i₂ i; digest = d₂ i; signed = a₂ i; algorithm = g i; signature = h i; unsigned = u₂ i }

content_same : (c c' : Content) → content_parts c ≡ content_parts c' → c ≡ c'
content_same detached detached e = refl
content_same detached (plain b) e = absurd (let z : ◌≡◌ {A = ℕ} 0 1 = cc in omega arith)
content_same detached (segmented s) e = absurd (let z : ◌≡◌ {A = ℕ} 0 1 = cc in omega arith)
content_same (plain b) detached e = absurd (let z : ◌≡◌ {A = ℕ} 0 1 = cc in omega arith)
content_same (plain b) (plain b') e = let f : b ≡ b' = cc in ap plain f
content_same (plain b) (segmented s) e = absurd (let z : ◌≡◌ {A = ℕ} 0 1 = cc in omega arith)
content_same (segmented s) detached e = absurd (let z : ◌≡◌ {A = ℕ} 0 1 = cc in omega arith)
content_same (segmented s) (plain b) e = absurd (let z : ◌≡◌ {A = ℕ} 0 1 = cc in omega arith)
content_same (segmented s) (segmented s') e =
    let r : row_of segment_tree s ≡ row_of segment_tree s' = cc in
    ap segmented (rows_same segment_tree (λ b b' p. let f : b ≡ b' = cc in f) s s' r)

-- a list in a field that may be there, before elements that begin with another tag
field_same : (tag : ℕ) (es es' : Option (List Tree)) (r r' : Forest) → (head_tag r ≡ tag → ⊥) → (head_tag r' ≡ tag → ⊥) →
    maybe (λ ts. node tag (row ts)) es r ≡ maybe (λ ts. node tag (row ts)) es' r' → (es ≡ es') × (r ≡ r')
field_same tag None None r r' n n' e = (refl, e)
field_same tag None (Some b) r r' n n' e = absurd (n (ap head_tag e))
field_same tag (Some a) None r r' n n' e = absurd (n' (sym (ap head_tag e)))
field_same tag (Some a) (Some b) r r' n n' e =
    let q : row a ≡ row b = cc in
    let s : r ≡ r' = cc in
    (ap Some (row_same a b q), s)

behind_revocations : (rs : Option (List Tree)) (ss : List Signer) → head_tag (maybe revocations_tree rs (more (node 0x31 (row_of signer_tree ss)) none)) ≡ 0xa0 → ⊥
behind_revocations None ss e = omega arith
behind_revocations (Some es) ss e = omega arith

pub file_same : (f f' : File) → file_tree f ≡ file_tree f' → f ≡ f'
file_same f f' e =
    let d : signed_data_tree f ≡ signed_data_tree f' = cc in
    let v : f.version ≡ f'.version = cc in
    let g : f.digests ≡ f'.digests = cc in
    let t : f.content_type ≡ f'.content_type = cc in
    let c₁ : content_parts f.content ≡ content_parts f'.content = cc in
    let l : maybe certificates_tree f.certificates (maybe revocations_tree f.revocations (more (signers_tree f) none))
    ≡ maybe certificates_tree f'.certificates (maybe revocations_tree f'.revocations (more (signers_tree f') none)) = cc in
    let cs = field_same 0xa0 f.certificates f'.certificates _ _ (behind_revocations f.revocations f.signers) (behind_revocations f'.revocations f'.signers) l in
    let rs = field_same 0xa1 f.revocations f'.revocations (more (signers_tree f) none) (more (signers_tree f') none) (λ z. omega arith) (λ z. omega arith) cs.1 in
    let s₀ = rs.1 in
    let s₁ : row_of signer_tree f.signers ≡ row_of signer_tree f'.signers = cc in
    let c₂ = content_same f.content f'.content c₁ in
    let s₂ = rows_same signer_tree signer_same f.signers f'.signers s₁ in
    let p = cs.0 in
    let q = rs.0 in
    λ i. record { version = v i; digests = g i; content_type = t i; content = c₂ i; certificates = p i; revocations = q i; signers = s₂ i }

pub one_file : (f f' : File) (levels : ℕ) → Valid (file_tree f) levels → Valid (file_tree f') levels → file_bytes f ≡ file_bytes f' → f ≡ f'
one_file f f' levels v v' e =
    file_same f f' (same_tree (file_tree f) (file_tree f') levels [] [] v v' (append-nil (file_bytes f) ∙ e ∙ sym (append-nil (file_bytes f')))).0
