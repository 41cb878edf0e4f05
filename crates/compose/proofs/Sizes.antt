-- How long nested elements are, and that headers made for a size fit.
use Rattle.std.proofs.Common.{◌≡◌, ℕ, ◌+◌, ◌<◌, List, ◌++◌, length, Some, None, Option, sym, refl, arith, MatchOption}
use Rattle.std.proofs.lemmas.List.{length-append}
use Rattle.der.specs.Trees.{length_bytes, framed}
use Rattle.compose.specs.declared.frame.Framed.{Framed}
use Rattle.compose.specs.declared.headers.Headers.{Headers}
use Rattle.compose.specs.Framing.{Framing}
use Rattle.compose.specs.Composed.{index_type, set_bytes, carrier_bytes, unsigned_bytes, signer_bytes, signers_bytes, data_bytes, field_bytes, message_bytes, values_bytes, stamp_type, stamp_bytes}
use Rattle.compose.specs.Heads.{InnerHeads, InnerLong, OuterHeads, OuterLong, HeadsAll, Fitting, TooLong, identifier_bytes}

-- an element is longer than its contents
pub framed_longer : (tag : ℕ) (body : List ℕ) → length body < length (framed tag body)
framed_longer tag body = omega (arith, length-append (length_bytes (length body)) body)

-- and with something before them
led_longer : (tag : ℕ) (lead body : List ℕ) → length lead + length body < length (framed tag (lead ++ body))
led_longer tag lead body = omega (arith, framed_longer tag (lead ++ body), length-append lead body)

size_index : length index_type ≡ 8
unfolding index_type
size_index = refl

size_stamp : length stamp_type ≡ 8
unfolding stamp_type
size_stamp = refl

-- each element is longer than what is in it: those of the signer and inside it
record InnerGrows (s x : List ℕ) : Type 0 where
  set : length x < length (set_bytes x)
  carrier : 8 + length (set_bytes x) < length (carrier_bytes x)
  unsigned : length (carrier_bytes x) < length (unsigned_bytes x)
  signer : length s + length (unsigned_bytes x) < length (signer_bytes s x)

inner_grows : (s x : List ℕ) → InnerGrows s x
unfolding set_bytes carrier_bytes unsigned_bytes signer_bytes
inner_grows s x = record {
  set = framed_longer 0x31 x;
  carrier = omega (arith, led_longer 0x30 index_type (set_bytes x), size_index);
  unsigned = framed_longer 0xa1 (carrier_bytes x);
  signer = led_longer 0x30 s (unsigned_bytes x);
}

-- and those around it
record OuterGrows (i f s x : List ℕ) : Type 0 where
  signers : length (signer_bytes s x) < length (signers_bytes s x)
  fields : length f + length (signers_bytes s x) < length (data_bytes f s x)
  field : length (data_bytes f s x) < length (field_bytes f s x)
  message : length i + length (field_bytes f s x) < length (message_bytes i f s x)
  values : length (message_bytes i f s x) < length (values_bytes i f s x)
  stamp : 8 + length (values_bytes i f s x) < length (stamp_bytes i f s x)

outer_grows : (i f s x : List ℕ) → OuterGrows i f s x
unfolding signers_bytes data_bytes field_bytes message_bytes values_bytes stamp_bytes
outer_grows i f s x = record {
  signers = framed_longer 0x31 (signer_bytes s x);
  fields = led_longer 0x30 f (signers_bytes s x);
  field = framed_longer 0xa0 (data_bytes f s x);
  message = led_longer 0x30 i (field_bytes f s x);
  values = framed_longer 0x31 (message_bytes i f s x);
  stamp = omega (arith, led_longer 0x30 stamp_type (values_bytes i f s x), size_stamp);
}

-- one size too large inside makes the signer too long
module _ (six index : ℕ) where
  pub set_long : 65535 < index → InnerLong six index
  set_long h s x p q = omega (arith, inner_grows s x)

  module _ (set : Framed) (a : Framing set 0x31 index) where
    set_total : (x : List ℕ) → length x ≡ index → set.total ≡ length (set_bytes x)
    unfolding set_bytes
    set_total x q = a.total x q

    pub carrier_long : 65535 < 8 + set.total → InnerLong six index
    carrier_long h s x p q = omega (arith, set_total x q, inner_grows s x)

    module _ (carrier : Framed) (b : Framing carrier 0x30 (8 + set.total)) where
      carrier_size : (x : List ℕ) → length x ≡ index → length (index_type ++ set_bytes x) ≡ 8 + set.total
      carrier_size x q = omega (arith, length-append index_type (set_bytes x), size_index, set_total x q)

      carrier_total : (x : List ℕ) → length x ≡ index → carrier.total ≡ length (carrier_bytes x)
      unfolding carrier_bytes
      carrier_total x q = b.total (index_type ++ set_bytes x) (carrier_size x q)

      pub unsigned_long : 65535 < carrier.total → InnerLong six index
      unsigned_long h s x p q = omega (arith, carrier_total x q, inner_grows s x)

      module _ (unsigned : Framed) (d : Framing unsigned 0xa1 carrier.total) where
        unsigned_total : (x : List ℕ) → length x ≡ index → unsigned.total ≡ length (unsigned_bytes x)
        unfolding unsigned_bytes
        unsigned_total x q = d.total (carrier_bytes x) (sym (carrier_total x q))

        pub signer_long : 65535 < six + unsigned.total → InnerLong six index
        signer_long h s x p q = omega (arith, unsigned_total x q, inner_grows s x)

        module _ (signer : Framed) (e : Framing signer 0x30 (six + unsigned.total)) where
          signer_size : (s x : List ℕ) → length s ≡ six → length x ≡ index → length (s ++ unsigned_bytes x) ≡ six + unsigned.total
          signer_size s x p q = omega (arith, length-append s (unsigned_bytes x), unsigned_total x q)

          signer_total : (s x : List ℕ) → length s ≡ six → length x ≡ index → signer.total ≡ length (signer_bytes s x)
          unfolding signer_bytes
          signer_total s x p q = e.total (s ++ unsigned_bytes x) (signer_size s x p q)

          pub inner_heads : InnerHeads six index (record { signer = signer.header; unsigned = unsigned.header; carrier = carrier.header; set = set.header; total = signer.total })
          inner_heads s x p q = record {
            set = a.header x q;
            carrier = b.header (index_type ++ set_bytes x) (carrier_size x q);
            unsigned = d.header (carrier_bytes x) (sym (carrier_total x q));
            signer = e.header (s ++ unsigned_bytes x) (signer_size s x p q);
            total = signer_total s x p q;
          }

-- and around the signer
module _ (identifier front signer : ℕ) where
  pub signers_long : 65535 < signer → OuterLong identifier front signer
  signers_long h i f s x p q r = omega (arith, outer_grows i f s x)

  module _ (signers : Framed) (a : Framing signers 0x31 signer) where
    signers_total : (s x : List ℕ) → length (signer_bytes s x) ≡ signer → signers.total ≡ length (signers_bytes s x)
    unfolding signers_bytes
    signers_total s x r = a.total (signer_bytes s x) r

    pub data_long : 65535 < front + signers.total → OuterLong identifier front signer
    data_long h i f s x p q r = omega (arith, signers_total s x r, outer_grows i f s x)

    module _ (fields : Framed) (b : Framing fields 0x30 (front + signers.total)) where
      data_size : (f s x : List ℕ) → length f ≡ front → length (signer_bytes s x) ≡ signer → length (f ++ signers_bytes s x) ≡ front + signers.total
      data_size f s x q r = omega (arith, length-append f (signers_bytes s x), signers_total s x r)

      data_total : (f s x : List ℕ) → length f ≡ front → length (signer_bytes s x) ≡ signer → fields.total ≡ length (data_bytes f s x)
      unfolding data_bytes
      data_total f s x q r = b.total (f ++ signers_bytes s x) (data_size f s x q r)

      pub field_long : 65535 < fields.total → OuterLong identifier front signer
      field_long h i f s x p q r = omega (arith, data_total f s x q r, outer_grows i f s x)

      module _ (field : Framed) (d : Framing field 0xa0 fields.total) where
        field_total : (f s x : List ℕ) → length f ≡ front → length (signer_bytes s x) ≡ signer → field.total ≡ length (field_bytes f s x)
        unfolding field_bytes
        field_total f s x q r = d.total (data_bytes f s x) (sym (data_total f s x q r))

        pub message_long : 65535 < identifier + field.total → OuterLong identifier front signer
        message_long h i f s x p q r = omega (arith, field_total f s x q r, outer_grows i f s x)

        module _ (message : Framed) (e : Framing message 0x30 (identifier + field.total)) where
          message_size : (i f s x : List ℕ) → length i ≡ identifier → length f ≡ front → length (signer_bytes s x) ≡ signer → length (i ++ field_bytes f s x) ≡ identifier + field.total
          message_size i f s x p q r = omega (arith, length-append i (field_bytes f s x), field_total f s x q r)

          message_total : (i f s x : List ℕ) → length i ≡ identifier → length f ≡ front → length (signer_bytes s x) ≡ signer → message.total ≡ length (message_bytes i f s x)
          unfolding message_bytes
          message_total i f s x p q r = e.total (i ++ field_bytes f s x) (message_size i f s x p q r)

          pub values_long : 65535 < message.total → OuterLong identifier front signer
          values_long h i f s x p q r = omega (arith, message_total i f s x p q r, outer_grows i f s x)

          module _ (values : Framed) (g : Framing values 0x31 message.total) where
            values_total : (i f s x : List ℕ) → length i ≡ identifier → length f ≡ front → length (signer_bytes s x) ≡ signer → values.total ≡ length (values_bytes i f s x)
            unfolding values_bytes
            values_total i f s x p q r = g.total (message_bytes i f s x) (sym (message_total i f s x p q r))

            pub stamp_long : 65535 < 8 + values.total → OuterLong identifier front signer
            stamp_long h i f s x p q r = omega (arith, values_total i f s x p q r, outer_grows i f s x)

            module _ (stamp : Framed) (k : Framing stamp 0x30 (8 + values.total)) where
              stamp_size : (i f s x : List ℕ) → length i ≡ identifier → length f ≡ front → length (signer_bytes s x) ≡ signer → length (stamp_type ++ values_bytes i f s x) ≡ 8 + values.total
              stamp_size i f s x p q r = omega (arith, length-append stamp_type (values_bytes i f s x), size_stamp, values_total i f s x p q r)

              stamp_total : (i f s x : List ℕ) → length i ≡ identifier → length f ≡ front → length (signer_bytes s x) ≡ signer → stamp.total ≡ length (stamp_bytes i f s x)
              unfolding stamp_bytes
              stamp_total i f s x p q r = k.total (stamp_type ++ values_bytes i f s x) (stamp_size i f s x p q r)

              pub outer_heads : OuterHeads identifier front signer
                  (record { stamp = stamp.header; values = values.header; message = message.header; field = field.header; «data» = fields.header; signers = signers.header; total = stamp.total })
              outer_heads i f s x p q r = record {
                signers = a.header (signer_bytes s x) r;
                «data» = b.header (f ++ signers_bytes s x) (data_size f s x q r);
                field = d.header (data_bytes f s x) (sym (data_total f s x q r));
                message = e.header (i ++ field_bytes f s x) (message_size i f s x p q r);
                values = g.header (message_bytes i f s x) (sym (message_total i f s x p q r));
                stamp = k.header (stamp_type ++ values_bytes i f s x) (stamp_size i f s x p q r);
                total = stamp_total i f s x p q r;
              }

-- the signer too long makes the stamp too long
pub inner_long : (front six index : ℕ) → InnerLong six index → TooLong front six index
inner_long front six index l f s x p q r = omega (arith, l s x q r, outer_grows identifier_bytes f s x)

-- a front or six fields too long make the stamp too long
pub lead_long : (f s x : List ℕ) → 65535 < length f + length s → 65535 < length (stamp_bytes identifier_bytes f s x)
lead_long f s x h = omega (arith, inner_grows s x, outer_grows identifier_bytes f s x)

-- what is said of all bytes of these lengths is said of these
pub of_these : (f s x : List ℕ) (o : Option Headers) → MatchOption o (TooLong (length f) (length s) (length x)) (Fitting (length f) (length s) (length x)) →
    MatchOption o (65535 < length (stamp_bytes identifier_bytes f s x)) (λ h. HeadsAll h f s x)
of_these f s x None k = k f s x refl refl refl
of_these f s x (Some h) k = k f s x refl refl refl
