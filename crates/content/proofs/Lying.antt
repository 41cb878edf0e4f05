-- The content of a file lies where its message says, and a source serves it.
use Rattle.std.proofs.Common.{◌≡◌, ℕ, ◌+◌, ◌-◌, ◌≤◌, List, [], ◌∷◌, ◌++◌, length, Some, Ok, Err, Option, Result, refl, ap, ◌∙◌, subst, arith}
use Rattle.std.proofs.lemmas.List.{length-append}
use Rattle.std.specs.List.{flat_map}
use Rattle.der.specs.declared.fault.Fault.{Fault}
use Rattle.der.specs.declared.span.Span.{Span}
use Rattle.der.specs.Spans.{element_of}
use Rattle.der.specs.Trees.{Tree, Forest, more, Valid, Constructed, length_bytes, encode, encodes, tag_of}
use Rattle.cms.specs.declared.located.Message.{Message}
use Rattle.fields.specs.Placed.{located, placed_from, if_first, mapped}
use Rattle.cms.specs.Places.{content_at, message_at}
use Rattle.fields.specs.Reads.{placed}
use Rattle.cms.specs.Records.{or_detached}
use Rattle.fields.specs.Rules.{parts_of, head_size, body_size}
use Rattle.fields.proofs.Standing.{At, none_left, first_read, first_body, rest_at, parts_at, whole_at}
use Rattle.fields.proofs.Tags.{seq, field_zero, segments as made-of-segments}
use Rattle.model.specs.Parts.{row_of, segment_tree, Content, detached, plain, segmented, content_parts}
use Rattle.model.specs.Files.{File, file_tree, file_bytes}
use Rattle.digest.specs.declared.refusal.Refusal.{Refusal}
use Rattle.content.specs.declared.contents.FileContent.{FileContent}
use Rattle.content.specs.Contents.{content_bytes, content_in}
use Rattle.content.specs.Laws.{SegmentsJoin}
use Rattle.content.specs.Segments.{joined_in}
use Rattle.content.specs.Sources.{TooMany, Found, Served}
use Rattle.content.proofs.Joining.{joined_on, nothing_left}

read_element : (at : ℕ) (r : Result Span Fault) (s : Span) → placed at r ≡ Ok s → r ≡ Ok s
read_element at (Ok x) s e = let z : x ≡ s = cc in ap {B = Result Span Fault} Ok z
read_element at (Err f) s e = absurd (let z : ◌≡◌ {A = ℕ} 0 1 = cc in omega arith)

-- segments that stand in a file, joined
pub row_joined : (levels : ℕ) (file : List ℕ) (end at : ℕ) (segments : List (List ℕ)) → At levels file at end (row_of segment_tree segments) → joined_in file at end ≡ flat_map (λ bytes. bytes) segments
row_joined levels file end at [] a = nothing_left file end at (omega (arith, none_left levels file at end a))
row_joined levels file end at (s ∷ segments) a =
    let t = segment_tree s in
    joined_on file end at (located at t) (read_element at (element_of file at end) (located at t) (first_read levels file at end t _ a))
    ∙ ap (λ (x : List ℕ). x ++ joined_in file (at + head_size t + body_size t) end) (first_body levels file at end t _ a)
    ∙ ap (λ (x : List ℕ). s ++ x) (row_joined levels file end (at + head_size t + body_size t) segments (rest_at levels file at end t _ a))

pub segments_join : SegmentsJoin
segments_join segments levels file at end v l room e = row_joined levels file end at segments (record { valid = v; bytes = e; order = l; inside = room })

-- the content in its field, which may be there
content_read : (levels : ℕ) (file : List ℕ) (at end : ℕ) (content : Content) → At levels file at end (content_parts content) →
    content_in file (or_detached (mapped content_at (if_first 0xa0 (placed_from at (content_parts content))))) ≡ content_bytes content
content_read levels file at end detached a = refl
content_read levels file at end (plain bytes) a = ap Some (first_body _ _ _ _ _ _ (parts_at _ _ _ _ _ _ a field_zero))
content_read levels file at end (segmented segments) a = ap Some (row_joined _ _ _ _ segments (parts_at _ _ _ _ _ _ (parts_at _ _ _ _ _ _ a field_zero) made-of-segments))

-- joined, segments have fewer bytes than as elements
row_longer : (segments : List (List ℕ)) → length (flat_map (λ bytes. bytes) segments) ≤ length (encodes (row_of segment_tree segments))
row_longer [] = omega arith
row_longer (s ∷ segments) =
    let l = row_longer segments in
    omega (arith, length-append s (flat_map (λ bytes. bytes) segments), length-append (encode (segment_tree s)) (encodes (row_of segment_tree segments)), length-append (length_bytes (length s)) s)

-- no content of a file is too long for a source
content_few : (levels : ℕ) (file : List ℕ) (at end : ℕ) (content : Content) → At levels file at end (content_parts content) → TooMany (content_bytes content) → ⊥
content_few levels file at end detached a l = elim l [ ]
content_few levels file at end (plain bytes) a l = omega (arith, l, a.valid.0.3.0.1.short)
content_few levels file at end (segmented segments) a l = omega (arith, l, row_longer segments, a.valid.0.3.0.1.short)

-- what stands inside the first tree, and behind it
inside_first : {levels : ℕ} {file : List ℕ} {at end : ℕ} {t : Tree} {ts : Forest} → At levels file at end (more t ts) → Constructed (tag_of t) →
    At (levels - 1) file (at + head_size t) (at + head_size t + body_size t) (parts_of t)
inside_first a k = parts_at _ _ _ _ _ _ a k

behind_first : {levels : ℕ} {file : List ℕ} {at end : ℕ} {t : Tree} {ts : Forest} → At levels file at end (more t ts) → At levels file (at + head_size t + body_size t) end ts
behind_first a = rest_at _ _ _ _ _ _ a

pub content_lies : (f : File) (levels : ℕ) (file : List ℕ) → Valid (file_tree f) levels → file ≡ file_bytes f → content_in file (message_at 0 (file_tree f)).info.content ≡ content_bytes f.content
content_lies f levels file v e =
    let fields = inside_first (inside_first (behind_first (inside_first (whole_at levels file (file_tree f) v e) seq)) field_zero) seq in
    content_read _ file _ _ f.content (behind_first (inside_first (behind_first (behind_first fields)) seq))

no_content_long : (f : File) (levels : ℕ) (file : List ℕ) → Valid (file_tree f) levels → file ≡ file_bytes f → TooMany (content_bytes f.content) → ⊥
no_content_long f levels file v e =
    let fields = inside_first (inside_first (behind_first (inside_first (whole_at levels file (file_tree f) v e) seq)) field_zero) seq in
    content_few _ file _ _ f.content (behind_first (inside_first (behind_first (behind_first fields)) seq))

not_refused : (bytes : Option (List ℕ)) (r : Result (Option FileContent) Refusal) → (TooMany bytes → ⊥) → Found bytes r → Served bytes r
not_refused bytes (Ok source) few e = e
not_refused bytes (Err refusal) few e = few e.0

-- what is found where the message says is the content of the file
pub content_served : (f : File) (levels : ℕ) (file : List ℕ) (message : Message) (r : Result (Option FileContent) Refusal) → Valid (file_tree f) levels → file ≡ file_bytes f →
    message ≡ message_at 0 (file_tree f) → Found (content_in file message.info.content) r → Served (content_bytes f.content) r
content_served f levels file message r v e m found =
    let lies : content_in file message.info.content ≡ content_bytes f.content = ap (λ (x : Message). content_in file x.info.content) m ∙ content_lies f levels file v e in
    not_refused (content_bytes f.content) r (no_content_long f levels file v e) (subst (λ (bytes : Option (List ℕ)). Found bytes r) lies found)
