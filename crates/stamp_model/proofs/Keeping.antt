-- Later copies: the relations carry through, and what a stamp stands for stays.
use Rattle.std.proofs.Common.{◌≡◌, ℕ, zero, suc, List, [], ◌∷◌, ◌++◌, map, Some, sym, refl, ap, ◌∙◌, subst, arith}
use Rattle.std.specs.List.{ContainsAt as Has, AllZip, AllByRecursion, slice_get}
use Rattle.std.proofs.ByRecursion.{all-has, all_has_itself, All-weaker, has_append_left}
use Rattle.std.proofs.lemmas.List.{append-nil, append_assoc}
use Rattle.der.specs.Trees.{Tree, leaf, encode}
use Rattle.model.specs.Parts.{Attribute, attribute_tree, Identifier, Algorithm, Signer}
use Rattle.model.specs.Files.{File, content_type_tree}
use Rattle.stamp_model.specs.declared.lists.ListName.{ListName}
use Rattle.stamp_model.specs.declared.lists.ListName.TheVariants.{Certificates, Revocations, Attributes}
use Rattle.stamp_model.specs.Indexes.{entries_for, index_bytes}
use Rattle.stamp_model.specs.Covering.{given, elements_of, six_bytes, input_of, Matched}
use Rattle.stamp_model.specs.Later.{Keeping, Included, Begins, LaterSigner, LaterBy, AsLate, Grown}
use Rattle.stamp_model.specs.Laws.{LateLaws, SignerStays, StampStays}

-- a way to compare lists that is reflexive and carries through
pub record Carrying (Kept : Keeping) : Type 1 where
  pub same : (X : Type 0) (xs : List X) → Kept X xs xs
  pub through : (X : Type 0) (xs ys zs : List X) → Kept X xs ys → Kept X ys zs → Kept X xs zs

included : Carrying Included
included = record {
  same = λ X xs. all_has_itself xs;
  through = λ X xs ys zs p q. All-weaker (Has ys) (Has zs) (λ x h. all-has (Has zs) ys x q h) xs p;
}

begins : Carrying Begins
begins = record {
  same = λ X xs. ([], sym (append-nil xs));
  through = λ X xs ys zs p q. (p.0 ++ q.0, q.1 ∙ ap (λ (l : List X). l ++ q.0) p.1 ∙ append_assoc xs p.0 q.0);
}

module _ (Kept : Keeping) (k : Carrying Kept) where
  signer_same : (s : Signer) → LaterSigner Kept s s
  signer_same s = record { identifier = refl; digest = refl; signed = refl; algorithm = refl; signature = refl; unsigned = k.same Attribute (given s.unsigned) }

  signer_through : (s t u : Signer) → LaterSigner Kept s t → LaterSigner Kept t u → LaterSigner Kept s u
  signer_through s t u p q = record {
    identifier = q.identifier ∙ p.identifier;
    digest = q.digest ∙ p.digest;
    signed = q.signed ∙ p.signed;
    algorithm = q.algorithm ∙ p.algorithm;
    signature = q.signature ∙ p.signature;
    unsigned = k.through Attribute (given s.unsigned) (given t.unsigned) (given u.unsigned) p.unsigned q.unsigned;
  }

  each_same : (ss : List Signer) → AllZip (LaterSigner Kept) ss ss
  each_same [] = tt
  each_same (s ∷ ss) = (signer_same s, each_same ss)

  each_through : (ss ts us : List Signer) → AllZip (LaterSigner Kept) ss ts → AllZip (LaterSigner Kept) ts us → AllZip (LaterSigner Kept) ss us
  each_through [] [] us p q = q
  each_through [] (t ∷ ts) us p q = absurd p
  each_through (s ∷ ss) [] us p q = absurd p
  each_through (s ∷ ss) (t ∷ ts) [] p q = absurd q
  each_through (s ∷ ss) (t ∷ ts) (u ∷ us) p q = (signer_through s t u p.0 q.0, each_through ss ts us p.1 q.1)

  pub later_same : (f : File) → LaterBy Kept f f
  later_same f = record {
    version = refl;
    digests = refl;
    content_type = refl;
    content = refl;
    certificates = k.same Tree (given f.certificates);
    revocations = k.same Tree (given f.revocations);
    signers = each_same f.signers;
  }

  pub later_through : (f g h : File) → LaterBy Kept f g → LaterBy Kept g h → LaterBy Kept f h
  later_through f g h p q = record {
    version = q.version ∙ p.version;
    digests = q.digests ∙ p.digests;
    content_type = q.content_type ∙ p.content_type;
    content = q.content ∙ p.content;
    certificates = k.through Tree (given f.certificates) (given g.certificates) (given h.certificates) p.certificates q.certificates;
    revocations = k.through Tree (given f.revocations) (given g.revocations) (given h.revocations) p.revocations q.revocations;
    signers = each_through f.signers g.signers h.signers p.signers q.signers;
  }

-- what begins a list stands in it
begun_included : (X : Type 0) (xs ys : List X) → Begins X xs ys → Included X xs ys
begun_included X xs ys p =
    All-weaker (Has xs) (Has ys) (λ x h. subst (λ (l : List X). Has l x) (sym p.1) (has_append_left xs p.0 x h)) xs (all_has_itself xs)

signer_late : (s t : Signer) → LaterSigner Begins s t → LaterSigner Included s t
signer_late s t p = record {
  identifier = p.identifier;
  digest = p.digest;
  signed = p.signed;
  algorithm = p.algorithm;
  signature = p.signature;
  unsigned = begun_included Attribute (given s.unsigned) (given t.unsigned) p.unsigned;
}

each_late : (ss ts : List Signer) → AllZip (LaterSigner Begins) ss ts → AllZip (LaterSigner Included) ss ts
each_late [] [] p = tt
each_late [] (t ∷ ts) p = absurd p
each_late (s ∷ ss) [] p = absurd p
each_late (s ∷ ss) (t ∷ ts) p = (signer_late s t p.0, each_late ss ts p.1)

pub grown_late : (f g : File) → Grown f g → AsLate f g
grown_late f g p = record {
  version = p.version;
  digests = p.digests;
  content_type = p.content_type;
  content = p.content;
  certificates = begun_included Tree (given f.certificates) (given g.certificates) p.certificates;
  revocations = begun_included Tree (given f.revocations) (given g.revocations) p.revocations;
  signers = each_late f.signers g.signers p.signers;
}

pub late_laws : LateLaws
late_laws = record {
  same = later_same Included included;
  through = later_through Included included;
  grown_same = later_same Begins begins;
  grown_through = later_through Begins begins;
  grown_late = grown_late;
}

-- a signer has its place, in any later file
pub signer_there : (Kept : Keeping) (ss ts : List Signer) (k : ℕ) (s : Signer) → AllZip (LaterSigner Kept) ss ts → slice_get ss k ≡ Some s →
    (t : Signer) × (slice_get ts k ≡ Some t) × LaterSigner Kept s t
signer_there Kept [] ts k s p e = absurd (let z : ◌≡◌ {A = ℕ} 0 1 = cc in omega arith)
signer_there Kept (s' ∷ ss) [] k s p e = absurd p
signer_there Kept (s' ∷ ss) (t ∷ ts) zero s p e =
    let q : s' ≡ s = cc in
    (t, refl, subst (λ (x : Signer). LaterSigner Kept x t) q p.0)
signer_there Kept (s' ∷ ss) (t ∷ ts) (suc k) s p e = signer_there Kept ss ts k s p.1 e

pub signer_stays : SignerStays
signer_stays f f' k s p e = signer_there Included f.signers f'.signers k s p.signers e

-- what is included stays so under a function
all_mapped : {X Y : Type 0} (P : Y → Type 0) (g : X → Y) (xs : List X) → AllByRecursion P (map g xs) → AllByRecursion (λ x. P (g x)) xs
all_mapped P g [] p = tt
all_mapped P g (x ∷ xs) p = (p.0, all_mapped P g xs p.1)

has_map : {X Y : Type 0} (g : X → Y) (xs : List X) (x : X) → Has xs x → Has (map g xs) (g x)
has_map g xs x h = all-has (λ y. Has (map g xs) (g y)) xs x (all_mapped (Has (map g xs)) g xs (all_has_itself (map g xs))) h

map_all : {X Y : Type 0} (P : Y → Type 0) (g : X → Y) (xs : List X) → AllByRecursion (λ x. P (g x)) xs → AllByRecursion P (map g xs)
map_all P g [] p = tt
map_all P g (x ∷ xs) p = (p.0, map_all P g xs p.1)

pub included_map : {X Y : Type 0} (g : X → Y) (xs ys : List X) → Included X xs ys → Included Y (map g xs) (map g ys)
included_map g xs ys p = map_all (Has (map g ys)) g xs (All-weaker (Has ys) (λ x. Has (map g ys) (g x)) (λ x h. has_map g ys x h) xs p)

pub elements_included : (f f' : File) (s s' : Signer) → AsLate f f' → LaterSigner Included s s' → (list : ListName) → Included (List ℕ) (elements_of f s list) (elements_of f' s' list)
elements_included f f' s s' p q Certificates = included_map encode (given f.certificates) (given f'.certificates) p.certificates
elements_included f f' s s' p q Revocations = included_map encode (given f.revocations) (given f'.revocations) p.revocations
elements_included f f' s s' p q Attributes = included_map (λ a. encode (attribute_tree a)) (given s.unsigned) (given s'.unsigned) q.unsigned

six_same : (s s' : Signer) → LaterSigner Included s s' → six_bytes s' ≡ six_bytes s
six_same s s' q =
    ap (λ (i : Identifier). six_bytes (record { identifier = i; digest = s'.digest; signed = s'.signed; algorithm = s'.algorithm; signature = s'.signature; unsigned = s'.unsigned })) q.identifier
    ∙ ap (λ (d : Algorithm). six_bytes (record { identifier = s.identifier; digest = d; signed = s'.signed; algorithm = s'.algorithm; signature = s'.signature; unsigned = s'.unsigned })) q.digest
    ∙ ap (λ (a : List Attribute). six_bytes (record { identifier = s.identifier; digest = s.digest; signed = a; algorithm = s'.algorithm; signature = s'.signature; unsigned = s'.unsigned })) q.signed
    ∙ ap (λ a. six_bytes (record { identifier = s.identifier; digest = s.digest; signed = s.signed; algorithm = a; signature = s'.signature; unsigned = s'.unsigned })) q.algorithm
    ∙ ap (λ b. six_bytes (record { identifier = s.identifier; digest = s.digest; signed = s.signed; algorithm = s.algorithm; signature = b; unsigned = s'.unsigned })) q.signature

pub input_stays : (f f' : File) (s s' : Signer) (digest index : List ℕ) → AsLate f f' → LaterSigner Included s s' → input_of f' s' digest index ≡ input_of f s digest index
input_stays f f' s s' digest index p q =
    ap (λ (name : List ℕ). encode (leaf 6 name) ++ (digest ++ (six_bytes s' ++ index))) p.content_type
    ∙ ap (λ (six : List ℕ). encode (content_type_tree f) ++ (digest ++ (six ++ index))) (six_same s s' q)

pub stamp_stays : StampStays
stamp_stays = record {
  input = λ D content f f' s s' st p q. input_stays f f' s s' (D content) (index_bytes st.index) p q;
  covers = λ D content f f' s s' st p q c. record {
    agrees = c.agrees ∙ ap D (sym (input_stays f f' s s' (D content) (index_bytes st.index) p q));
    matched = λ list. All-weaker (Matched D (elements_of f s list)) (Matched D (elements_of f' s' list))
        (λ entry h. all-has (Has (map D (elements_of f' s' list))) (map D (elements_of f s list)) entry
        (included_map D (elements_of f s list) (elements_of f' s' list) (elements_included f f' s s' p q list)) h) (entries_for st.index list) (c.matched list);
  };
}
