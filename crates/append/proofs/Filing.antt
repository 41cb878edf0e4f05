-- The lists of a file, each at its place.
use Rattle.std.proofs.Common.{◌≡◌, ℕ, ◌+◌, ◌-◌, Bool, List, [], ◌∷◌, ◌++◌, length, is_some, Some, None, Option, sym, refl, ap, ◌∙◌, arith}
use Rattle.std.proofs.lemmas.List.{length-append}
use Rattle.der.specs.Headers.{header_size_of}
use Rattle.der.specs.Trees.{Tree, node, Forest, none, more, OneByteTag, encode}
use Rattle.cms.specs.declared.located.Message.{Message}
use Rattle.cms.specs.declared.located.Signer.{Signer as Located}
use Rattle.fields.specs.Placed.{Placed, span_of, placed_from, nth, if_first, past, mapped, entries_for}
use Rattle.cms.specs.Places.{signer_at, message_at}
use Rattle.fields.specs.Reads.{behind, entries_stop}
use Rattle.fields.specs.Rules.{parts_of, head_size, body_size}
use Rattle.model.specs.Parts.{row_of, maybe, attribute_tree, Signer, signer_tree}
use Rattle.model.specs.Files.{File, certificates_tree, revocations_tree, signers_tree, file_tree, file_bytes}
use Rattle.rules.specs.Offsets.{skip_maybe}
use Rattle.rules.specs.Signers.{signer_number}
use Rattle.append.specs.Appended.{with_certificates, with_revocations, with_attributes, Addition, certificates, revocations, attributes, with_more, addition_bytes}
use Rattle.append.specs.declared.list.GrowingList.{GrowingList}
use Rattle.append.specs.declared.list.GrowingList.TheVariants.{Certificates, Revocations, Attributes}
use Rattle.append.specs.declared.place.Place.{Place}
use Rattle.append.specs.Listed.{FileAt, outer_at, path_of, offsets, IsPlace, Joins}
use Rattle.append.proofs.Inside.{length_encode, outermost, step_behind, step_maybe, step_within}
use Rattle.append.proofs.Held.{Held, HeldFor, held, held_at, held_for, held_tag}
use Rattle.append.proofs.Signing.{find_signer_lem, unsigned_there}

low_seq : OneByteTag 0x30
low_seq z = let y : ◌≡◌ {A = ℕ} 16 31 = z in omega arith

low_set : OneByteTag 0x31
low_set z = let y : ◌≡◌ {A = ℕ} 17 31 = z in omega arith

pub low_zero : OneByteTag 0xa0
low_zero z = let y : ◌≡◌ {A = ℕ} 0 31 = z in omega arith

pub low_one : OneByteTag 0xa1
low_one z = let y : ◌≡◌ {A = ℕ} 1 31 = z in omega arith

-- the fields from the signers on, from the revocation entries on, from the certificates on
abbrev from_signers : List Signer → Forest
from_signers ss = more (node 0x31 (row_of signer_tree ss)) none

abbrev from_revocations : Option (List Tree) → List Signer → Forest
from_revocations rs ss = maybe revocations_tree rs (from_signers ss)

abbrev from_certificates : Option (List Tree) → Option (List Tree) → List Signer → Forest
from_certificates cs rs ss = maybe certificates_tree cs (from_revocations rs ss)

-- what the record says of them
certificates_there : (p : ℕ) (cs rs : Option (List Tree)) (ss : List Signer) → is_some (mapped entries_for (if_first 0xa0 (placed_from p (from_certificates cs rs ss)))) ≡ is_some cs
certificates_there p (Some ts) rs ss = refl
certificates_there p None (Some ts) ss = refl
certificates_there p None None ss = refl

revocations_there : (p : ℕ) (cs rs : Option (List Tree)) (ss : List Signer) → is_some (mapped entries_for (if_first 0xa1 (past 0xa0 (placed_from p (from_certificates cs rs ss))))) ≡ is_some rs
revocations_there p (Some ts) (Some us) ss = refl
revocations_there p (Some ts) None ss = refl
revocations_there p None (Some us) ss = refl
revocations_there p None None ss = refl

revocations_from : (p : ℕ) (cs rs : Option (List Tree)) (ss : List Signer) →
    behind entries_stop p (mapped entries_for (if_first 0xa0 (placed_from p (from_certificates cs rs ss)))) ≡ skip_maybe certificates_tree p cs
revocations_from p (Some ts) rs ss = refl
revocations_from p None (Some us) ss = refl
revocations_from p None None ss = refl

signers_from : (p : ℕ) (cs rs : Option (List Tree)) (ss : List Signer) →
    nth 0 (past 0xa1 (past 0xa0 (placed_from p (from_certificates cs rs ss)))) ≡ record { at = skip_maybe revocations_tree (skip_maybe certificates_tree p cs) rs; tree = node 0x31 (row_of signer_tree ss) }
signers_from p (Some ts) (Some us) ss = refl
signers_from p (Some ts) None ss = refl
signers_from p None (Some us) ss = refl
signers_from p None None ss = refl

-- the header around the signed data stands right before it
pub outer_is : (at : ℕ) (t : Tree) → (at + head_size (node 0xa0 (more t none))) - header_size_of (at + head_size (node 0xa0 (more t none)) + head_size t + body_size t - (at + head_size (node 0xa0 (more t none)))) ≡ at
outer_is at t =
    let s : ℕ = at + head_size (node 0xa0 (more t none)) in
    let size : s + head_size t + body_size t - s ≡ length (encode t ++ []) = omega (arith, length_encode t, length-append (encode t) []) in
    omega (arith, ap header_size_of size)

abbrev attributes_path : Located → Message → File → List ℕ
attributes_path x m f = x.signature.end ∷ x.whole.start ∷ m.signers.field.start ∷ m.whole.start ∷ outer_at f ∷ 0 ∷ []

-- each list of a file is held where the record says
module _ {bytes : List ℕ} {m : Message} (f : File) (a : FileAt bytes m f) {path : List ℕ} {there : Bool} where
  certificates_held : path ≡ path_of Certificates m f → there ≡ is_some m.certificates → Held (λ t. t) bytes path there 0xa0 (λ new. with_certificates new f)
  certificates_held p t =
      let fields = step_within (step_within (step_behind (outermost 0x30 (parts_of (file_tree f)) a.bytes_are low_seq)) low_zero) low_seq in
      held_at (p ∙ ap (λ (m : Message). path_of Certificates m f) a.parts)
      (t ∙ ap (λ (m : Message). is_some m.certificates) a.parts ∙ certificates_there _ f.certificates f.revocations f.signers)
      (held (λ t. t) 0xa0 (from_revocations f.revocations f.signers) low_zero (λ new. with_certificates new f) f.certificates (step_behind (step_behind (step_behind fields))) (λ new. refl))

  revocations_held : path ≡ path_of Revocations m f → there ≡ is_some m.revocations → Held (λ t. t) bytes path there 0xa1 (λ new. with_revocations new f)
  revocations_held p t =
      let fields = step_within (step_within (step_behind (outermost 0x30 (parts_of (file_tree f)) a.bytes_are low_seq)) low_zero) low_seq in
      held_at
      (p ∙ ap (λ (m : Message). path_of Revocations m f) a.parts
      ∙ ap (λ (x : ℕ). x ∷ (message_at 0 (file_tree f)).whole.start ∷ outer_at f ∷ 0 ∷ []) (revocations_from _ f.certificates f.revocations f.signers))
      (t ∙ ap (λ (m : Message). is_some m.revocations) a.parts ∙ revocations_there _ f.certificates f.revocations f.signers)
      (held (λ t. t) 0xa1 (from_signers f.signers) low_one (λ new. with_revocations new f) f.revocations (step_maybe certificates_tree f.certificates (step_behind (step_behind (step_behind fields)))) (λ new. refl))

  attributes_held : (n : ℕ) {x : Located} → signer_number n m.signers.field.body f.signers ≡ Some x → path ≡ attributes_path x m f → there ≡ is_some x.unsigned →
      Held attribute_tree bytes path there 0xa1 (λ new. with_attributes n new f)
  attributes_held n {x} q p t =
      let fields = step_within (step_within (step_behind (outermost 0x30 (parts_of (file_tree f)) a.bytes_are low_seq)) low_zero) low_seq in
      let list = step_maybe revocations_tree f.revocations (step_maybe certificates_tree f.certificates (step_behind (step_behind (step_behind fields)))) in
      let at = signers_from _ f.certificates f.revocations f.signers in
      let body : m.signers.field.body ≡ skip_maybe revocations_tree (skip_maybe certificates_tree (message_at 0 (file_tree f)).info.whole.end f.certificates) f.revocations + head_size (signers_tree f) =
      ap (λ (x : Message). x.signers.field.body) a.parts ∙ ap (λ (x : Placed). (span_of x).body) at in
      let found = find_signer_lem n _ f.signers x (step_within list low_set) (ap (λ (p : ℕ). signer_number n p f.signers) (sym body) ∙ q) in
      let person : Signer = found.signer in
      let y : Located = signer_at (record { at = found.at; tree = signer_tree person }) in
      held_at
      (p ∙ ap (λ (x : Located). attributes_path x m f) found.is ∙ ap (λ (m : Message). attributes_path y m f) a.parts
      ∙ ap (λ (x : Placed). y.signature.end ∷ y.whole.start ∷ x.at ∷ (message_at 0 (file_tree f)).whole.start ∷ outer_at f ∷ 0 ∷ []) at)
      (t ∙ ap (λ (x : Located). is_some x.unsigned) found.is ∙ unsigned_there _ person.unsigned)
      (held attribute_tree 0xa1 none low_one (λ new. with_attributes n new f) person.unsigned
      (step_behind (step_behind (step_behind (step_behind (step_behind (step_behind (step_within found.inside low_seq))))))) found.again)

-- and so is each place, for what joins it
module _ {bytes : List ℕ} {m : Message} (f : File) (a : FileAt bytes m f) {place : Place} where
  pub place_held : (list : GrowingList) (new : Addition) → Joins new list m f → IsPlace list m f place →
      HeldFor bytes (offsets place.path) place.there place.tag (addition_bytes new) (file_bytes (with_more new f))
  place_held Certificates (certificates new) j i = held_tag i.tag (held_for (certificates_held f a i.path i.there) new)
  place_held Revocations (revocations new) j i = held_tag i.tag (held_for (revocations_held f a i.path i.there) new)
  place_held (Attributes s) (attributes n new) j i = held_tag i.tag (held_for (attributes_held f a n j i.path i.there) new)
  place_held Certificates (revocations new) j i = absurd j
  place_held Certificates (attributes n new) j i = absurd j
  place_held Revocations (certificates new) j i = absurd j
  place_held Revocations (attributes n new) j i = absurd j
  place_held (Attributes s) (certificates new) j i = absurd j
  place_held (Attributes s) (revocations new) j i = absurd j
