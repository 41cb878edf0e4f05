-- The signer of a token carries a value, or a break is found; the value is the index, or is at fault.
use Rattle.std.proofs.Common.{◌≡◌, ℕ, ◌-◌, List, [], ◌∷◌, Some, None, Ok, Err, Option, sym, refl, ap, ◌∙◌, subst}
use Rattle.std.proofs.lemmas.List.{append-nil}
use Rattle.der.specs.declared.span.Span.{Span}
use Rattle.der.specs.Spans.{part}
use Rattle.der.specs.Trees.{Tree, leaf, node, none, more, Valid, encode}
use Rattle.fields.specs.Reads.{broke}
use Rattle.fields.proofs.Standing.{At, first_at, rest_at, inside_at}
use Rattle.fields.proofs.Tags.{seq, set, field_one}
use Rattle.cms.specs.declared.located.Signer.{Signer as Located}
use Rattle.model.specs.Parts.{row, maybe, Attribute, attribute_tree, Signer, unsigned_tree}
use Rattle.model.specs.Files.{File, signers_tree}
use Rattle.rules.specs.Offsets.{inside, signers_at, unsigned_at}
use Rattle.message.specs.declared.fault.MessageFault.{MessageFault}
use Rattle.message.specs.Lies.{SignerLies}
use Rattle.message.proofs.Levels.{bytes_tree}
use Rattle.message.proofs.SignerParts.{unsigned_stands}
use Rattle.stamp_model.specs.Indexes.{index_tree}
use Rattle.stamp_model.specs.Stamps.{index_kind}
use Rattle.index.specs.declared.located.IndexParts.{IndexParts}
use Rattle.token.specs.declared.parts.TokenParts.{TokenParts}
use Rattle.token.specs.Tokens.{TokenAt}
use Rattle.stamp.specs.Grammar.{carried}
use Rattle.stamp.specs.Places.{carried_at}
use Rattle.stamp.specs.Records.{carried_of}
use Rattle.stamp.specs.Indexed.{IsIndex, IndexLies, NoIndex}
use Rattle.stamp.specs.Stamped.{StampAt, carried_place, Uncarried, Misindexed}
use Rattle.stamp.proofs.Links.{link_carried, carried_lies}
use Rattle.stamp.proofs.CarriedTrees.{carried_of_lem}

-- where the unsigned attributes begin
place_is : (bytes : List ℕ) (x : Located) (f : File) (s : Signer) (w : SignerLies bytes x s) → x.whole.start ≡ inside (signers_at f) (signers_tree f) → x.signature.end ≡ carried_place f s
place_is bytes x f s w e =
    ap (λ (y : Located). y.signature.end) w.located
    ∙ ap (λ (p : ℕ). unsigned_at p s) (sym (ap (λ (y : Located). y.whole.start) w.located) ∙ e)

-- the value of the one attribute stands there alone
value_stands : (levels : ℕ) (bytes : List ℕ) (at end : ℕ) (u : Option (List Attribute)) (v : Tree) → u ≡ Some (record { kind = index_kind; values = v ∷ [] } ∷ []) →
    At levels bytes at end (maybe unsigned_tree u none) →
    (l : ℕ) × At l bytes (carried_at at (maybe unsigned_tree u none)).start (carried_at at (maybe unsigned_tree u none)).end (more v none)
value_stands levels bytes at end u v e a =
    subst (λ (y : Option (List Attribute)). (l : ℕ) × At l bytes (carried_at at (maybe unsigned_tree y none)).start (carried_at at (maybe unsigned_tree y none)).end (more v none)) (sym e) (
      _,
      first_at (levels - 1 - 1 - 1) bytes _ _ v none
          (inside_at (levels - 1 - 1) bytes _ _ (node 0x31 (row (v ∷ []))) none
          (rest_at (levels - 1 - 1) bytes _ _ (leaf 6 index_kind) (more (node 0x31 (row (v ∷ []))) none)
          (inside_at (levels - 1) bytes _ _ (attribute_tree carrier) none
          (inside_at levels bytes at end (unsigned_tree (carrier ∷ [])) none (subst (λ (y : Option (List Attribute)). At levels bytes at end (maybe unsigned_tree y none)) e a) 0xa1 refl field_one)
          0x30 refl seq)) 0x31 refl set),
    )
  where
    carrier : Attribute
    carrier = record { kind = index_kind; values = v ∷ [] }

module _ (bytes : List ℕ) (parts : TokenParts) (k : TokenAt 24 bytes parts) where
  abbrev file : File
  file = k.0

  abbrev signer : Signer
  signer = k.1

  abbrev at : ℕ
  at = parts.signer.signature.end

  abbrev end : ℕ
  end = parts.signer.whole.end

  stands : At (k.4.signer.levels - 1) bytes at end (maybe unsigned_tree signer.unsigned none)
  stands = unsigned_stands bytes parts.signer signer k.4.signer

  place : at ≡ carried_place file signer
  place = place_is bytes parts.signer file signer k.4.signer k.4.place

  -- where the reading breaks off, the signer does not carry just one index
  pub uncarried : (p : ℕ) → Err p ≡ carried_of bytes at end → Uncarried bytes p
  uncarried p r = record {
    file = file;
    signer = signer;
    info = k.2;
    token = k.3;
    first =
        ap (λ (q : ℕ). carried q (maybe unsigned_tree signer.unsigned none)) (sym place)
        ∙ sym (link_carried _ bytes at end _ stands) ∙ ap broke (sym r);
  }

  -- where it gives a value, the signer carries just that
  pub record Value (span : Span) : Type 0 where
    pub value : Tree
    pub unsigned : signer.unsigned ≡ Some (record { kind = index_kind; values = value ∷ [] } ∷ [])
    pub start : span.start ≡ (carried_at (carried_place file signer) (maybe unsigned_tree signer.unsigned none)).start
    pub levels : ℕ
    pub valid : Valid value levels
    pub bytes_are : part bytes span.start span.end ≡ encode value

  pub value_of : (span : Span) → Ok span ≡ carried_of bytes at end → Value span
  value_of span r =
      let ts = maybe unsigned_tree signer.unsigned none in
      let none-broke : carried at ts ≡ None = sym (link_carried _ bytes at end ts stands) ∙ ap broke (sym r) in
      let v = carried_of_lem at signer.unsigned none-broke in
      let lies : span ≡ carried_at at ts = (carried_lies _ bytes at end ts stands).holds span (sym r) in
      let a = value_stands _ bytes at end signer.unsigned v.0 v.1 stands in
      record {
        value = v.0;
        unsigned = v.1;
        start = ap (λ (y : Span). y.start) lies ∙ ap (λ (q : ℕ). (carried_at q ts).start) place;
        levels = a.0;
        valid = a.1.valid.0;
        bytes_are = ap (λ (y : Span). part bytes y.start y.end) lies ∙ a.1.bytes ∙ append-nil (encode v.0);
      }

  pub misindexed : (span : Span) (whole : List ℕ) (fault : MessageFault) → Ok span ≡ carried_of bytes at end → whole ≡ part bytes span.start span.end → NoIndex 16 whole fault →
      Misindexed bytes span.start fault
  misindexed span whole fault r e n =
      let v = value_of span r in
      record {
        file = file;
        signer = signer;
        info = k.2;
        token = k.3;
        value = v.value;
        unsigned = v.unsigned;
        begins = v.start;
        none_there = subst (λ (y : List ℕ). NoIndex 16 y fault) (e ∙ v.bytes_are) n;
      }

  pub stamp_at : (span : Span) (whole : List ℕ) (entries : IndexParts) → Ok span ≡ carried_of bytes at end → whole ≡ part bytes span.start span.end → IndexLies 16 whole entries →
      StampAt bytes (record { token = parts; index = span; entries = entries })
  stamp_at span whole entries r e x =
      let v = value_of span r in
      let same : v.value ≡ index_tree x.0 = bytes_tree v.value (index_tree x.0) v.levels 16 v.valid x.1.written.valid (sym v.bytes_are ∙ sym e ∙ x.1.written.bytes_are) in (
        record { token = file; signer = signer; info = k.2; index = x.0 },
        record {
          token = k.3;
          unsigned = v.unsigned ∙ ap (λ (t : Tree). Some (record { kind = index_kind; values = t ∷ [] } ∷ [])) same;
          index = x.1.shape;
        },
        record {
          token = k.4;
          index = subst (λ (y : List ℕ). IsIndex 16 y x.0) e x.1;
          entries = x.2;
        },
      )
