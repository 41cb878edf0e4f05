-- A message of a token's form has an octet string and one signer, where its record says.
use Rattle.std.proofs.Common.{◌≡◌, ℕ, ◌+◌, ◌-◌, List, [], ◌∷◌, length, Some, None, sym, refl, ap, ◌∙◌, subst, arith}
use Rattle.der.specs.declared.span.Span.{Span}
use Rattle.der.specs.Spans.{part}
use Rattle.der.specs.Trees.{Tree, leaf, node, none, more}
use Rattle.fields.specs.Placed.{located, placed_from, if_first, mapped}
use Rattle.fields.specs.Rules.{head_size}
use Rattle.fields.proofs.Standing.{At, rest_at, inside_at, first_at, first_body}
use Rattle.fields.proofs.Tags.{field_zero}
use Rattle.cms.specs.declared.located.Signer.{Signer as Located}
use Rattle.cms.specs.Places.{content_at, signer_at, message_at}
use Rattle.cms.specs.Records.{or_detached}
use Rattle.model.specs.Parts.{Content, detached, plain, segmented, content_parts, Signer, signer_tree}
use Rattle.model.specs.Files.{File, file_tree, content_type_tree, signers_tree}
use Rattle.model.specs.Shapes.{IsPlain}
use Rattle.rules.specs.Offsets.{inside, signers_at}
use Rattle.rules.specs.Signers.{Signers, signer_number}
use Rattle.cms.specs.declared.located.Message.{Message}
use Rattle.message.specs.declared.fault.MessageFault.{MessageFault}
use Rattle.message.specs.Formed.{Formed, LiesAt, WithinAt}
use Rattle.message.specs.Lies.{SignerLies}
use Rattle.message.proofs.Lying.{type_inside}
use Rattle.stamp_model.specs.Tokens.{token_settings}
use Rattle.token.specs.declared.located.InfoParts.{InfoParts}
use Rattle.token.specs.Told.{ToldAt, Untold}
use Rattle.token.specs.Tokens.{octets_for, NoInfo, TokenAt}

-- the octet string of a message of the form, and its contents
pub record Octets (bytes : List ℕ) (f : File) : Type 0 where
  pub contents : List ℕ
  pub content : f.content ≡ plain contents
  pub span : Span
  pub found : octets_for (message_at 0 (file_tree f)).info.content ≡ Some span
  pub are : part bytes span.body span.end ≡ contents

plain_content : (c : Content) → IsPlain c → (b : List ℕ) × (c ≡ plain b)
plain_content detached p = absurd p
plain_content (plain b) p = (b, refl)
plain_content (segmented s) p = absurd p

-- the field around an octet string
abbrev field : List ℕ → Tree
field b = node 0xa0 (more (leaf 4 b) none)

octets_at : (q : ℕ) (c : Content) (b : List ℕ) → c ≡ plain b → octets_for (or_detached (mapped content_at (if_first 0xa0 (placed_from q (content_parts c))))) ≡ Some (located (q + head_size (field b)) (leaf 4 b))
octets_at q c b e = ap (λ (x : Content). octets_for (or_detached (mapped content_at (if_first 0xa0 (placed_from q (content_parts x)))))) e

octets_are : (levels : ℕ) (bytes : List ℕ) (at end : ℕ) (c : Content) (b : List ℕ) → c ≡ plain b → At levels bytes at end (content_parts c) →
    part bytes (located (at + head_size (field b)) (leaf 4 b)).body (located (at + head_size (field b)) (leaf 4 b)).end ≡ b
octets_are levels bytes at end c b e a =
    let a₁ : At levels bytes at end (more (field b) none) = subst (λ (x : Content). At levels bytes at end (content_parts x)) e a in
    first_body (levels - 1) bytes _ _ (leaf 4 b) none (inside_at levels bytes at end (field b) none a₁ 0xa0 refl field_zero)

pub octets_of_lem : (levels : ℕ) (bytes : List ℕ) (f : File) → Formed token_settings levels bytes f → Octets bytes f
octets_of_lem levels bytes f k =
    let p = plain_content f.content k.shape.content.1 in
    let a = rest_at _ bytes _ _ (content_type_tree f) (content_parts f.content) (type_inside token_settings levels bytes f k) in
    record { contents = p.0; content = p.1; span = _; found = octets_at _ f.content p.0 p.1; are = octets_are _ bytes _ _ f.content p.0 p.1 a }

-- the one signer
one_signer : (ss : List Signer) → length ss ≡ 1 → (s : Signer) × (ss ≡ s ∷ [])
one_signer [] e = absurd (omega arith)
one_signer (s ∷ []) e = (s, refl)
one_signer (s ∷ t ∷ ss) e = absurd (omega arith)

signer_lies : (levels : ℕ) (bytes : List ℕ) (at end : ℕ) (s : Signer) → Signers levels bytes at end (s ∷ []) → SignerLies bytes (signer_at (record { at = at; tree = signer_tree s })) s
signer_lies levels bytes at end s w = record {
  levels = levels;
  at = at;
  stands = first_at levels bytes at end (signer_tree s) none (record { valid = w.valid; bytes = w.bytes; order = w.order; inside = w.inside });
  located = refl;
}

pub signer_found : (levels : ℕ) (bytes : List ℕ) (at end : ℕ) (ss : List Signer) (x : Located) → length ss ≡ 1 → Signers levels bytes at end ss → Some x ≡ signer_number 0 at ss →
    (s : Signer) × (ss ≡ s ∷ []) × SignerLies bytes x s × (x.whole.start ≡ at)
signer_found levels bytes at end ss x l w e =
    let o = one_signer ss l in
    let q : x ≡ signer_at (record { at = at; tree = signer_tree o.0 }) = some_same (e ∙ ap (signer_number 0 at) o.1) in (
      o.0,
      o.1,
      subst (λ (y : Located). SignerLies bytes y o.0) (sym q) (signer_lies levels bytes at end o.0 (subst (λ (y : List Signer). Signers levels bytes at end y) o.1 w)),
      ap (λ (y : Located). y.whole.start) q,
    )
  where
    some_same : {y z : Located} → Some y ≡ Some z → y ≡ z
    some_same p = cc

pub signer_there : (at : ℕ) (ss : List Signer) → length ss ≡ 1 → None ≡ signer_number 0 at ss → ⊥
signer_there at ss l e =
    let o = one_signer ss l in
    let q : None ≡ Some (signer_at (record { at = at; tree = signer_tree o.0 })) = e ∙ ap (signer_number 0 at) o.1 in
    let z : ◌≡◌ {A = ℕ} 0 1 = cc in omega arith

pub signers_moved : (levels : ℕ) (bs bs' : List ℕ) (at at' end end' : ℕ) (ss : List Signer) → bs ≡ bs' → at ≡ at' → end ≡ end' → Signers levels bs at end ss → Signers levels bs' at' end' ss
signers_moved levels bs bs' at at' end end' ss p q e r =
    subst (λ (x : ℕ). Signers levels bs' at' x ss) e (subst (λ (x : ℕ). Signers levels bs' x end ss) q (subst (λ (x : List ℕ). Signers levels x at end ss) p r))

-- the octet string that was found is that of the message
pub octets_same : (bytes : List ℕ) (f : File) (m : Message) (o : Octets bytes f) (span : Span) → LiesAt m f → Some span ≡ octets_for m.info.content → span ≡ o.span
octets_same bytes f m o span l e = some_same (e ∙ ap (λ (x : Message). octets_for x.info.content) l ∙ o.found)
  where
    some_same : {y z : Span} → Some y ≡ Some z → y ≡ z
    some_same p = cc

pub octets_there : (bytes : List ℕ) (f : File) (m : Message) (o : Octets bytes f) → LiesAt m f → None ≡ octets_for m.info.content → ⊥
octets_there bytes f m o l e =
    let q : None ≡ Some o.span = e ∙ ap (λ (x : Message). octets_for x.info.content) l ∙ o.found in
    let z : ◌≡◌ {A = ℕ} 0 1 = cc in omega arith

-- contents that tell nothing are at fault
pub no_info : (levels : ℕ) (bytes contents : List ℕ) (m : Message) (span : Span) (fault : MessageFault) → (w : WithinAt token_settings levels bytes m) → Some span ≡ octets_for m.info.content →
    contents ≡ part bytes span.body span.end → Untold contents fault → NoInfo levels bytes span.body fault
no_info levels bytes contents m span fault w e q u =
    let o = octets_of_lem levels bytes w.0 w.1.formed in
    let s = octets_same bytes w.0 m o span w.2 e in
    record {
      file = w.0;
      within = w.1;
      contents = o.contents;
      content = o.content;
      octets = o.span;
      lies = o.found;
      begins = ap (λ (x : Span). x.body) s;
      untold = subst (λ (x : List ℕ). Untold x fault) (q ∙ ap (λ (x : Span). part bytes x.body x.end) s ∙ o.are) u;
    }

-- contents that tell something make a token
pub token_at : (levels : ℕ) (bytes contents : List ℕ) (m : Message) (span : Span) (x : Located) (parts : InfoParts) (w : WithinAt token_settings levels bytes m) → Some span ≡ octets_for m.info.content →
    contents ≡ part bytes span.body span.end → ToldAt contents parts → ((s : Signer) × (w.0.signers ≡ s ∷ []) × SignerLies bytes x s × (x.whole.start ≡ inside (signers_at w.0) (signers_tree w.0))) →
    TokenAt levels bytes (record { message = m; signer = x; octets = span; info = parts })
token_at levels bytes contents m span x parts w e q u n =
    let o = octets_of_lem levels bytes w.0 w.1.formed in
    let s = octets_same bytes w.0 m o span w.2 e in
    let are : contents ≡ o.contents = q ∙ ap (λ (x : Span). part bytes x.body x.end) s ∙ o.are in (
      w.0,
      n.0,
      u.0,
      record {
        formed = w.1.formed;
        token = record {
          shape = w.1.formed.shape;
          limits = w.1.limits;
          signer = n.1;
          content = o.content ∙ ap plain (sym are ∙ u.1.bytes_are);
          levels = u.1.valid;
        };
      },
      record { message = w.2; signer = n.2; place = n.3; octets = sym e; contents = sym q ∙ u.1.bytes_are; info = u.2 },
    )
