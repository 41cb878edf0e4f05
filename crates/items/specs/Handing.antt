-- What a list hands out.
use Rattle.std.specs.Prelude.{◌≡◌, ℕ, List, [], None, Option, MatchOption}
use Rattle.std.specs.Borrow.{Bor}
use Rattle.der.specs.Spans.{part}
use Rattle.der.specs.Trees.{Tree, Forest, more, Valids, encode, encodes}
use Rattle.items.specs.declared.item.Kind.{Kind}
use Rattle.items.specs.declared.item.Kind.TheVariants.{Certificate as CertificateKind, Revocation as RevocationKind, Attribute as AttributeKind, SignerField as SignerFieldKind}
use Rattle.items.specs.declared.item.Item.{Item}
use Rattle.items.specs.declared.item.Item.TheVariants.{Certificate, Revocation, Attribute, SignerField}
use Rattle.items.specs.declared.item.Handed.{Handed}
use Rattle.items.specs.declared.items.Items.{Items}

-- the item of a kind that is this part of the file
abbrev pub item_of : Kind → Bor (List ℕ) → Item
item_of CertificateKind bytes = Certificate bytes
item_of RevocationKind bytes = Revocation bytes
item_of AttributeKind bytes = Attribute bytes
item_of SignerFieldKind bytes = SignerField bytes

-- the bytes that are left of a list
abbrev pub left : Items → List ℕ
left l = part l.reader.bytes.now l.reader.at l.reader.end

-- the first tree is handed out, as an item of the list's kind with its offset, and the others are left
abbrev pub HandsOut : Items → Items → Tree → Forest → Option Handed → Type 0
HandsOut was is t ts r =
    MatchOption r ⊥ (λ h. (h.offset ≡ was.reader.at) × ((bytes : Bor (List ℕ)) × (h.item ≡ item_of was.kind bytes) × (bytes.now ≡ encode t)))
    × (left is ≡ encodes ts)

-- where nothing is left, nothing is handed out
abbrev pub NothingLeft : Items → Items → Option Handed → Type 0
NothingLeft was is r = left was ≡ [] → r ≡ None

-- what a list hands out when it is asked for the next item
pub record Hands (was : Items) (r : Option Handed) (is : Items) : Type 0 where
  pub stands : (is.reader.bytes.now ≡ was.reader.bytes.now) × (is.reader.end ≡ was.reader.end) × (is.kind ≡ was.kind)
  pub trees : (t : Tree) (ts : Forest) (levels : ℕ) → Valids (more t ts) levels → left was ≡ encodes (more t ts) → HandsOut was is t ts r
  pub none : NothingLeft was is r
