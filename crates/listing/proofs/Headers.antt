-- The header of a tree, and what is behind it.
use Rattle.std.proofs.Common.{◌≡◌, ℕ, ◌+◌, ◌-◌, List, ◌++◌, length, take, drop, Ok, sym, refl, ap, ◌∙◌}
use lib.Bits.{bit_and}
use Rattle.std.proofs.lemmas.List.{append_assoc, length-append, drop_at, take_at}
use Rattle.der.specs.declared.header.Header.{Header}
use Rattle.der.specs.Head.{header_of}
use Rattle.der.specs.Trees.{Tree, leaf, node, Forest, Constructed, Forms, Valid, encode, encodes, tag_of, body_of}
use Rattle.der.proofs.Unique.{of_frame}
use Rattle.listing.specs.Listed.{head_of}

abbrev head_in : Tree → Header
head_in t = record { tag = tag_of t; head = length (head_of (tag_of t) (body_of t)); size = length (body_of t) }

-- the bytes that a tree begins
abbrev pub Begins : ℕ → List ℕ → Tree → List ℕ → Type 0
Begins levels xs t ys = Valid t levels × (xs ≡ encode t ++ ys)

pub header_is : (levels : ℕ) (xs : List ℕ) (t : Tree) (ys : List ℕ) → Begins levels xs t ys → header_of xs ≡ Ok (head_in t)
header_is levels xs (leaf tag body) ys (v, e) = ap header_of e ∙ of_frame tag body ys v.1
header_is levels xs (node tag parts) ys (v, e) = ap header_of e ∙ of_frame tag (encodes parts) ys v.1

same_header : (levels : ℕ) (xs : List ℕ) (h : Header) (t : Tree) (ys : List ℕ) → header_of xs ≡ Ok h → Begins levels xs t ys → h ≡ head_in t
same_header levels xs h t ys q b = let p = header_is levels xs t ys b in cc

pub length_encode : (t : Tree) → length (encode t) ≡ length (head_of (tag_of t) (body_of t)) + length (body_of t)
length_encode (leaf tag body) = length-append (head_of tag body) body
length_encode (node tag parts) = length-append (head_of tag (encodes parts)) (encodes parts)

-- the contents, by the header that is read
contents_is : (levels : ℕ) (xs : List ℕ) (h : Header) (tag : ℕ) (parts : Forest) (ys : List ℕ) → header_of xs ≡ Ok h → Begins levels xs (node tag parts) ys →
    encodes parts ≡ take h.size (drop h.head xs)
contents_is levels xs h tag parts ys q b =
    let body : List ℕ = encodes parts in
    let e : xs ≡ head_of tag body ++ (body ++ ys) = b.1 ∙ append_assoc (head_of tag body) body ys in
    sym (ap (λ (x : Header). take x.size (drop x.head xs)) (same_header levels xs h (node tag parts) ys q b)
    ∙ ap (λ (x : List ℕ). take (length body) (drop (length (head_of tag body)) x)) e
    ∙ ap (take (length body)) (drop_at (head_of tag body) (body ++ ys) (length (head_of tag body)) refl)
    ∙ take_at body ys (length body) refl)

not_leaf : {P : Type 0} (levels : ℕ) (xs : List ℕ) (h : Header) (tag : ℕ) (body ys : List ℕ) → header_of xs ≡ Ok h → Constructed h.tag → Begins levels xs (leaf tag body) ys → P
not_leaf levels xs h tag body ys q k b =
    absurd (k (ap (λ (x : Header). bit_and x.tag 32) (same_header levels xs h (leaf tag body) ys q b) ∙ b.0.2))

-- a constructed element holds elements
pub parts_of_lem : (levels : ℕ) (xs : List ℕ) (h : Header) (t : Tree) (ys : List ℕ) → header_of xs ≡ Ok h → Constructed h.tag → Begins levels xs t ys →
    Forms (levels - 1) (take h.size (drop h.head xs))
parts_of_lem levels xs h (leaf tag body) ys q k b = not_leaf levels xs h tag body ys q k b
parts_of_lem levels xs h (node tag parts) ys q k b = (parts, b.0.3, contents_is levels xs h tag parts ys q b)
