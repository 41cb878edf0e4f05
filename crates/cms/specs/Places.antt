-- Where the parts of a message lie, told by its tree.
use Rattle.std.specs.Prelude.{ℕ, cond, List, drop}
use Rattle.der.specs.declared.span.Span.{Span}
use Rattle.der.specs.Trees.{Tree, tag_of}
use Rattle.cms.specs.declared.located.Attribute.{Attribute}
use Rattle.cms.specs.declared.located.Signer.{Signer}
use Rattle.cms.specs.declared.located.Content.{Content}
use Rattle.cms.specs.declared.located.Content.TheVariants.{Plain, Segmented}
use Rattle.cms.specs.declared.located.ContentInfo.{ContentInfo}
use Rattle.cms.specs.declared.located.Message.{Message}
use Rattle.fields.specs.Reads.{is}
use Rattle.cms.specs.Records.{or_detached}
use Rattle.fields.specs.Placed.{Placed, span_of, inside_of, nth, if_first, past, mapped, entries_for}

-- an attribute: its type and its values
abbrev pub attribute_from : Span → List Placed → Attribute
attribute_from whole parts = record { whole = whole; kind = span_of (nth 0 parts); values = entries_for (nth 1 parts) }

-- the attribute that an element is
abbrev pub attribute_at : Placed → Attribute
attribute_at x = attribute_from (span_of x) (inside_of x)

-- a signer: six fields, and the unsigned attributes
abbrev pub signer_from : Span → List Placed → Signer
signer_from whole parts = record {
  whole = whole;
  version = span_of (nth 0 parts);
  identifier = span_of (nth 1 parts);
  digest = span_of (nth 2 parts);
  signed = entries_for (nth 3 parts);
  algorithm = span_of (nth 4 parts);
  signature = span_of (nth 5 parts);
  unsigned = mapped entries_for (if_first 0xa1 (drop 6 parts));
}

-- the signer that an element is
abbrev pub signer_at : Placed → Signer
signer_at x = signer_from (span_of x) (inside_of x)

-- the content in its field: tagged 04 it is plain, else it has segments
abbrev pub content_from : Span → Placed → Content
content_from field octets = cond (is 4 (tag_of octets.tree)) (Plain field (span_of octets)) (Segmented field (entries_for octets))

-- the content that a field holds
abbrev pub content_at : Placed → Content
content_at field = content_from (span_of field) (nth 0 (inside_of field))

-- the content info: the content type, and the content in a field that may be there
abbrev pub info_from : Span → List Placed → ContentInfo
info_from whole parts = record { whole = whole; kind = span_of (nth 0 parts); content = or_detached (mapped content_at (if_first 0xa0 (drop 1 parts))) }

-- the content info that an element is
abbrev pub info_at : Placed → ContentInfo
info_at x = info_from (span_of x) (inside_of x)

-- signed data: three fields, certificates and revocation entries that may be there, and the signers
abbrev pub data_from : Span → List Placed → Message
data_from whole parts = record {
  whole = whole;
  version = span_of (nth 0 parts);
  digests = span_of (nth 1 parts);
  info = info_at (nth 2 parts);
  certificates = mapped entries_for (if_first 0xa0 (drop 3 parts));
  revocations = mapped entries_for (if_first 0xa1 (past 0xa0 (drop 3 parts)));
  signers = entries_for (nth 0 (past 0xa1 (past 0xa0 (drop 3 parts))));
}

-- the signed data that an element is
abbrev pub data_at : Placed → Message
data_at x = data_from (span_of x) (inside_of x)

-- the message that begins at `at`: an identifier, and the signed data in a field
abbrev pub message_at : ℕ → Tree → Message
message_at at t = data_at (nth 0 (inside_of (nth 1 (inside_of (record { at = at; tree = t })))))
