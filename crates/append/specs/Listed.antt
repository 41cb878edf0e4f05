-- Where a file lies, and a list inside it: its field, or the place where the field would be made.
use Rattle.std.specs.Prelude.{◌≡◌, ℕ, Bool, true, false, List, [], ◌∷◌, drop, slice_index, is_some, Some}
use Rattle.cms.specs.declared.located.Message.{Message}
use Rattle.cms.specs.Places.{message_at}
use Rattle.fields.specs.Reads.{behind as stop, entries_stop}
use Rattle.cms.specs.Identifiers.{signed_data_id}
use Rattle.der.specs.Trees.{leaf}
use Rattle.model.specs.Files.{File, file_tree, file_bytes}
use Rattle.rules.specs.Offsets.{inside, behind}
use Rattle.grow.specs.Frames.{Frame}
use Rattle.grow.specs.Changes.{Encloses, Spot}
use Rattle.rules.specs.Signers.{signer_number}
use Rattle.append.specs.declared.list.GrowingList.{GrowingList}
use Rattle.append.specs.declared.list.GrowingList.TheVariants.{Certificates, Revocations, Attributes}
use Rattle.append.specs.declared.place.Path.{Path}
use Rattle.append.specs.declared.place.Path.TheVariants.{OfMessage, OfSigner}
use Rattle.append.specs.declared.place.Place.{Place}
use Rattle.append.specs.Appended.{Addition, certificates, revocations, attributes}

-- the bytes are those of the file, and the record tells where its parts lie
pub record FileAt (bytes : List ℕ) (m : Message) (f : File) : Type 0 where
  pub bytes_are : bytes ≡ file_bytes f
  pub parts : m ≡ message_at 0 (file_tree f)

-- where the field begins that the signed data stands in: behind the identifier, the first element of the file
abbrev pub outer_at : File → ℕ
outer_at f = behind (inside 0 (file_tree f)) (leaf 6 signed_data_id)

-- the offsets of a list's field, standing or to be made, and of the elements around it, the innermost first:
-- certificates stand behind the content info, revocation entries behind the certificates, if their field is there,
-- and unsigned attributes behind the signature of their signer
abbrev pub path_of : GrowingList → Message → File → List ℕ
path_of Certificates m f = m.info.whole.end ∷ m.whole.start ∷ outer_at f ∷ 0 ∷ []
path_of Revocations m f = stop entries_stop m.info.whole.end m.certificates ∷ m.whole.start ∷ outer_at f ∷ 0 ∷ []
path_of (Attributes s) m f = s.now.signature.end ∷ s.now.whole.start ∷ m.signers.field.start ∷ m.whole.start ∷ outer_at f ∷ 0 ∷ []

-- whether its field is there
abbrev pub stands : GrowingList → Message → Bool
stands Certificates m = is_some m.certificates
stands Revocations m = is_some m.revocations
stands (Attributes s) m = is_some s.now.unsigned

-- and the tag of the field
abbrev pub list_tag : GrowingList → ℕ
list_tag Certificates = 0xa0
list_tag Revocations = 0xa1
list_tag (Attributes s) = 0xa1

-- the offsets that a path holds
abbrev pub offsets : Path → List ℕ
offsets (OfMessage path) = path
offsets (OfSigner path) = path

-- the place of a list of f
pub record IsPlace (list : GrowingList) (m : Message) (f : File) (place : Place) : Type 0 where
  pub path : offsets place.path ≡ path_of list m f
  pub there : place.there ≡ stands list m
  pub tag : place.tag ≡ list_tag list

-- what may be appended to a list: elements of its kind, and attributes to the signer of their number
abbrev pub Joins : Addition → GrowingList → Message → File → Type 0
Joins (certificates new) Certificates m f = Unit {0}
Joins (revocations new) Revocations m f = Unit {0}
Joins (attributes n new) (Attributes s) m f = signer_number n m.signers.field.body f.signers ≡ Some s.now
Joins a list m f = ⊥

-- a field with the contents left out, between the bytes of its siblings
abbrev pub frame : List ℕ → ℕ → List ℕ → Frame
frame before tag after = record { before = before; tag = tag; after = after }

-- a list at the first offset of `path`, inside the elements at the others:
-- its field stands there with the contents `old`, or it is not there, and `old` is empty
pub record ListAt (there : Bool) (file path : List ℕ) (fs : List Frame) (before : List ℕ) (tag : ℕ) (after old : List ℕ) : Type 0 where
  pub field : there ≡ true → Encloses file path (frame before tag after ∷ fs) old
  pub place : there ≡ false → Spot file (drop 1 path) (slice_index path 0) fs before after
  pub empty : there ≡ false → old ≡ []
