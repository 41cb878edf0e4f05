-- The parts of a message lie where its record says.
use Rattle.std.proofs.Common.{◌≡◌, ℕ, ◌+◌, ◌-◌, List, [], ◌∷◌, length, Some, None, Option, sym, refl, ap, ◌∙◌, subst, arith}
use Rattle.std.proofs.lemmas.List.{append-nil}
use Rattle.der.specs.Trees.{Tree, leaf, node, Forest, none, more, Constructed}
use Rattle.fields.proofs.Tags.{seq, set, field_zero, field_one}
use Rattle.cms.specs.declared.located.Message.{Message}
use Rattle.cms.specs.Identifiers.{signed_data_id}
use Rattle.fields.specs.Placed.{Placed, placed_from, nth, past, if_first, mapped, entries_for, span_of}
use Rattle.cms.specs.Places.{message_at}
use Rattle.fields.specs.Rules.{head_size, body_size}
use Rattle.fields.proofs.Standing.{At, rest_at, inside_at, first_bytes}
use Rattle.model.specs.Parts.{row_of, row, maybe, signer_tree, content_parts}
use Rattle.model.specs.Files.{File, certificates_tree, revocations_tree, content_type_tree, content_info_tree, signers_tree, signed_data_tree, file_tree, file_bytes}
use Rattle.rules.specs.Offsets.{behind, inside, skip_maybe, data_at, certificates_at, signers_at}
use Rattle.rules.specs.Signers.{Signers}
use Rattle.cms.specs.declared.settings.Settings.{Settings}
use Rattle.message.specs.Formed.{Formed}
use Rattle.message.specs.Lies.{ListLies, Lies}
use Rattle.message.proofs.Made.{whole_part}

-- behind a field that may be there
skip_maybe_lem : {M : Type 0} (tree : M → Tree) (levels : ℕ) (file : List ℕ) (at end : ℕ) (o : Option M) (rest : Forest) → At levels file at end (maybe tree o rest) → At levels file (skip_maybe tree at o) end rest
skip_maybe_lem tree levels file at end None rest a = a
skip_maybe_lem tree levels file at end (Some m) rest a = rest_at levels file at end (tree m) rest a

length_row : {M : Type 0} (tree : M → Tree) (p : ℕ) (ms : List M) → length (placed_from p (row_of tree ms)) ≡ length ms
length_row tree p [] = refl
length_row tree p (m ∷ ms) = let e = length_row tree (p + head_size (tree m) + body_size (tree m)) ms in omega arith

signers_placed : (at : ℕ) (cs rs : Option (List Tree)) (parts : Forest) →
    nth 0 (past 0xa1 (past 0xa0 (placed_from at (maybe certificates_tree cs (maybe revocations_tree rs (more (node 0x31 parts) none))))))
    ≡ record { at = skip_maybe revocations_tree (skip_maybe certificates_tree at cs) rs; tree = node 0x31 parts }
signers_placed at None None parts = refl
signers_placed at None (Some rs) parts = refl
signers_placed at (Some cs) None parts = refl
signers_placed at (Some cs) (Some rs) parts = refl

-- the lists stand in their fields
list_lies : (levels : ℕ) (file : List ℕ) (at end tag : ℕ) (ts : List Tree) (rest : Forest) → Constructed tag → At levels file at end (more (node tag (row ts)) rest) →
    ListLies (levels - 1) file (Some (entries_for (record { at = at; tree = node tag (row ts) }))) (Some ts)
list_lies levels file at end tag ts rest k a = (length_row (λ t. t) _ ts, inside_at levels file at end (node tag (row ts)) rest a tag refl k)

certificates_lie : (levels : ℕ) (file : List ℕ) (at end : ℕ) (cs rs : Option (List Tree)) (parts : Forest) →
    At levels file at end (maybe certificates_tree cs (maybe revocations_tree rs (more (node 0x31 parts) none))) →
    ListLies (levels - 1) file (mapped entries_for (if_first 0xa0 (placed_from at (maybe certificates_tree cs (maybe revocations_tree rs (more (node 0x31 parts) none)))))) cs
certificates_lie levels file at end None None parts a = tt
certificates_lie levels file at end None (Some rs) parts a = tt
certificates_lie levels file at end (Some cs) rs parts a = list_lies levels file at end 0xa0 cs _ field_zero a

revocations_lie : (levels : ℕ) (file : List ℕ) (at end : ℕ) (cs rs : Option (List Tree)) (parts : Forest) →
    At levels file (skip_maybe certificates_tree at cs) end (maybe revocations_tree rs (more (node 0x31 parts) none)) →
    ListLies (levels - 1) file (mapped entries_for (if_first 0xa1 (past 0xa0 (placed_from at (maybe certificates_tree cs (maybe revocations_tree rs (more (node 0x31 parts) none))))))) rs
revocations_lie levels file at end None None parts a = tt
revocations_lie levels file at end None (Some rs) parts a = list_lies levels file at end 0xa1 rs _ field_one a
revocations_lie levels file at end (Some cs) None parts a = tt
revocations_lie levels file at end (Some cs) (Some rs) parts a = list_lies levels file _ end 0xa1 rs _ field_one a

-- where the signed data ends
pub data_end : File → ℕ
data_end f = behind (inside (behind (inside 0 (file_tree f)) (leaf 6 signed_data_id)) (node 0xa0 (more (signed_data_tree f) none))) (signed_data_tree f)

module _ (settings : Settings) (levels : ℕ) (file : List ℕ) (f : File) (k : Formed settings levels file f) where
  whole : At levels file 0 (length file) (more (file_tree f) none)
  whole = record {
    valid = (k.valid, tt);
    bytes = whole_part file ∙ k.bytes_are ∙ sym (append-nil (file_bytes f));
    order = omega arith;
    inside = omega arith;
  }

  -- the fields of the signed data
  pub fields : At (levels - 1 - 1 - 1) file (data_at f) (data_end f) (more (leaf 2 (f.version ∷ [])) (more (node 0x31 f.digests) (more (content_info_tree f)
      (maybe certificates_tree f.certificates (maybe revocations_tree f.revocations (more (signers_tree f) none))))))
  unfolding data_end
  fields =
      inside_at (levels - 1 - 1) file _ _ (signed_data_tree f) none
      (inside_at (levels - 1) file _ _ (node 0xa0 (more (signed_data_tree f) none)) none
      (rest_at (levels - 1) file _ _ (leaf 6 signed_data_id) (more (node 0xa0 (more (signed_data_tree f) none)) none)
      (inside_at levels file 0 (length file) (file_tree f) none whole 0x30 refl seq)) 0xa0 refl field_zero) 0x30 refl seq

  info : At (levels - 1 - 1 - 1) file (behind (behind (data_at f) (leaf 2 (f.version ∷ []))) (node 0x31 f.digests)) (data_end f)
      (more (content_info_tree f) (maybe certificates_tree f.certificates (maybe revocations_tree f.revocations (more (signers_tree f) none))))
  info = rest_at (levels - 1 - 1 - 1) file _ _ (node 0x31 f.digests) _ (rest_at (levels - 1 - 1 - 1) file _ _ (leaf 2 (f.version ∷ [])) _ fields)

  lists : At (levels - 1 - 1 - 1) file (certificates_at f) (data_end f) (maybe certificates_tree f.certificates (maybe revocations_tree f.revocations (more (signers_tree f) none)))
  lists = rest_at (levels - 1 - 1 - 1) file _ _ (content_info_tree f) _ info

  signers_field_lem : At (levels - 1 - 1 - 1) file (signers_at f) (data_end f) (more (signers_tree f) none)
  signers_field_lem =
      skip_maybe_lem revocations_tree (levels - 1 - 1 - 1) file _ _ f.revocations _ (skip_maybe_lem certificates_tree (levels - 1 - 1 - 1) file _ _ f.certificates _ lists)

  signers_inside : At (levels - 1 - 1 - 1 - 1) file (inside (signers_at f) (signers_tree f)) (behind (signers_at f) (signers_tree f)) (row_of signer_tree f.signers)
  signers_inside = inside_at (levels - 1 - 1 - 1) file _ _ (signers_tree f) none signers_field_lem 0x31 refl set

  pub type_inside : At (levels - 1 - 1 - 1 - 1) file (inside (behind (behind (data_at f) (leaf 2 (f.version ∷ []))) (node 0x31 f.digests)) (content_info_tree f))
      (behind (behind (behind (data_at f) (leaf 2 (f.version ∷ []))) (node 0x31 f.digests)) (content_info_tree f)) (more (content_type_tree f) (content_parts f.content))
  type_inside = inside_at (levels - 1 - 1 - 1) file _ _ (content_info_tree f) _ info 0x30 refl seq

  pub file_lies : (m : Message) → m ≡ message_at 0 (file_tree f) → Lies file m f
  file_lies m e = subst (λ (x : Message). Lies file x f) (sym e) (record {
    content_type = first_bytes (levels - 1 - 1 - 1 - 1) file _ _ (content_type_tree f) (content_parts f.content) type_inside;
    starts = ap (λ (x : Placed). (span_of x).start) placed;
    from = ap (λ (x : Placed). (span_of x).body) placed;
    levels = levels - 1 - 1 - 1 - 1;
    signers = subst (λ (x : Placed). Signers (levels - 1 - 1 - 1 - 1) file (span_of x).body (span_of x).end f.signers) (sym placed) (record {
      valid = signers_inside.valid;
      shape = k.shape.signers;
      bytes = signers_inside.bytes;
      order = signers_inside.order;
      inside = signers_inside.inside;
    });
    count = ap (λ (x : Placed). (entries_for x).count) placed ∙ length_row signer_tree _ f.signers;
    certificates = certificates_lie (levels - 1 - 1 - 1) file (certificates_at f) (data_end f) f.certificates f.revocations (row_of signer_tree f.signers) lists;
    revocations = revocations_lie (levels - 1 - 1 - 1) file (certificates_at f) (data_end f) f.certificates f.revocations (row_of signer_tree f.signers)
        (skip_maybe_lem certificates_tree (levels - 1 - 1 - 1) file _ _ f.certificates _ lists);
  })
    where
      placed : nth 0 (past 0xa1 (past 0xa0 (placed_from (certificates_at f) (maybe certificates_tree f.certificates (maybe revocations_tree f.revocations (more (signers_tree f) none))))))
          ≡ record { at = signers_at f; tree = signers_tree f }
      placed = signers_placed (certificates_at f) f.certificates f.revocations (row_of signer_tree f.signers)
