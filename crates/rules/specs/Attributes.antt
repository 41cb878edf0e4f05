-- The rules of attributes, and the place of the first that is broken.
use Rattle.std.specs.Prelude.{ℕ, Bool, false, cond, not, ◌&&◌, ◌||◌, List, [], ◌∷◌, ◌++◌, Some, None, Option}
use Rattle.std.specs.List.{list_any}
use Rattle.std.specs.Str.{bytes_eq}
use Rattle.der.specs.Trees.{Tree, encode, tag_of}
use Rattle.fields.specs.Reads.{is}
use Rattle.fields.specs.Rules.{or_else}
use Rattle.model.specs.Parts.{Attribute, attribute_tree, signed_tree, unsigned_tree, Signer, signer_tree}
use Rattle.model.specs.Files.{File, content_type_tree, signers_tree}
use Rattle.rules.specs.declared.kinds.AttributeKind.{AttributeKind}
use Rattle.rules.specs.declared.kinds.AttributeKind.TheVariants.{ContentType, MessageDigest, SigningCertificate, SigningCertificateV2}
use Rattle.rules.specs.Kinds.{kind_bytes, signed_kinds, unsigned_kinds}
use Rattle.rules.specs.Offsets.{behind, inside, signed_at, unsigned_at, signers_at}

-- the identifier is that of the type
abbrev pub names : AttributeKind → List ℕ → Bool
names kind name = bytes_eq name (kind_bytes kind)

abbrev pub is_kind : AttributeKind → Attribute → Bool
is_kind kind a = names kind a.kind

-- the identifier is that of one of these types
abbrev pub is_among : List AttributeKind → List ℕ → Bool
is_among kinds name = list_any (λ kind. names kind name) kinds

-- an attribute of the type stands among these
abbrev pub holds : AttributeKind → List Attribute → Bool
holds kind attributes = list_any (is_kind kind) attributes

-- there is one value, and it passes a test
abbrev pub one_value : (Tree → Bool) → List Tree → Bool
one_value test [] = false
one_value test (v ∷ []) = test v
one_value test (v ∷ w ∷ vs) = false

-- the value is the file's content type, byte for byte
abbrev pub is_content_type : Tree → Tree → Bool
is_content_type content_type v = bytes_eq (encode v) (encode content_type)

-- a signer lacks an attribute: content type, message digest, or both kinds of signing certificate
abbrev pub lacks : List Attribute → Bool
lacks signed =
    not (holds ContentType signed) || (not (holds MessageDigest signed) || not (holds SigningCertificate signed || holds SigningCertificateV2 signed))

-- an attribute stands a second time, where it may stand once
abbrev pub again : List AttributeKind → List Attribute → List ℕ → Bool
again kinds before name = list_any (λ kind. names kind name && holds kind before) kinds

-- a signed attribute breaks a rule; `before` are those in front of it
abbrev pub faulty_signed : Tree → List Attribute → Attribute → Bool
faulty_signed content_type before a =
    is_among unsigned_kinds a.kind
    || (again signed_kinds before a.kind
    || ((is_kind ContentType a && not (one_value (is_content_type content_type) a.values))
    || (is_kind MessageDigest a && not (one_value (λ v. is 4 (tag_of v)) a.values))))

-- the place of the first faulty one, of attributes from `p` on; `before` are those in front of them
abbrev pub first_faulty : (List Attribute → Attribute → Bool) → List Attribute → ℕ → List Attribute → Option ℕ
first_faulty faulty before p [] = None
first_faulty faulty before p (a ∷ rest) = cond (faulty before a) (Some p) (first_faulty faulty (before ++ a ∷ []) (behind p (attribute_tree a)) rest)

-- an attribute that may stand only among signed ones
abbrev pub misplaced : Attribute → Bool
misplaced a = is_among signed_kinds a.kind

-- the place of the first attribute that passes a test
abbrev pub first_with : (Attribute → Bool) → ℕ → List Attribute → Option ℕ
first_with test p [] = None
first_with test p (a ∷ rest) = cond (test a) (Some p) (first_with test (behind p (attribute_tree a)) rest)

abbrev pub first_misplaced_of : ℕ → Option (List Attribute) → Option ℕ
first_misplaced_of p None = None
first_misplaced_of p (Some attributes) = first_with misplaced (inside p (unsigned_tree attributes)) attributes

-- the place of the first broken rule of the signer that begins at `p`: the signer itself where an attribute is lacking
abbrev pub broken_told_by : Tree → ℕ → Signer → Option ℕ
broken_told_by content_type p s =
    cond (lacks s.signed) (Some p)
    (or_else (first_faulty (faulty_signed content_type) [] (inside (signed_at p s) (signed_tree s.signed)) s.signed) (first_misplaced_of (unsigned_at p s) s.unsigned))

abbrev pub first_broken_of : Tree → ℕ → List Signer → Option ℕ
first_broken_of content_type p [] = None
first_broken_of content_type p (s ∷ ss) = or_else (broken_told_by content_type p s) (first_broken_of content_type (behind p (signer_tree s)) ss)

-- the place of the first broken rule of a file
abbrev pub broken_rule_of : File → Option ℕ
broken_rule_of f = first_broken_of (content_type_tree f) (inside (signers_at f) (signers_tree f)) f.signers
