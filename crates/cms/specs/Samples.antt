-- Worked samples of messages and of the places where they break.
use Rattle.std.specs.Prelude.{◌≡◌, ℕ, List, [], ◌∷◌, ◌++◌, length, take, Some, None, Option}
use Rattle.cms.specs.declared.settings.SignerCount.{SignerCount}
use Rattle.cms.specs.declared.settings.SignerCount.TheVariants.{AtLeastOne, ExactlyOne, Nobody}
use Rattle.cms.specs.declared.settings.ContentForm.{ContentForm}
use Rattle.cms.specs.declared.settings.ContentForm.TheVariants.{Any, TimeStampInfo}
use Rattle.cms.specs.Identifiers.{signed_data_id, time_stamp_info_id}
use Rattle.fields.specs.Reads.{broke}
use Rattle.cms.specs.Records.{message_of}

-- where bytes break as a message with so many signers and such a content
abbrev break_of : SignerCount → ContentForm → List ℕ → Option ℕ
break_of signers content bytes = broke (message_of (record { signers = signers; content = content }) bytes 0 (length bytes))

-- the least signer, with its version
abbrev signer_of : ℕ → List ℕ
signer_of version =
    0x30 ∷ 0x0f ∷ 0x02 ∷ 0x01 ∷ version ∷ 0x30 ∷ 0x00 ∷ 0x30 ∷ 0x02 ∷ 0x06 ∷ 0x00 ∷ 0xa0 ∷ 0x00 ∷ 0x30 ∷ 0x00 ∷ 0x04 ∷ 0x00 ∷ []

-- the least message around its signer: no digest algorithm, and a content type of no bytes
abbrev around : List ℕ → List ℕ
around signer =
    0x30 ∷ 0x2b ∷ 0x06 ∷ 0x09 ∷ (signed_data_id ++
    (0xa0 ∷ 0x1e ∷ 0x30 ∷ 0x1c ∷ 0x02 ∷ 0x01 ∷ 0x01 ∷ 0x31 ∷ 0x00 ∷ 0x30 ∷ 0x02 ∷ 0x06 ∷ 0x00 ∷ 0x31 ∷ 0x11 ∷ signer))

-- the least file
abbrev least : List ℕ
least = around (signer_of 1)

-- the least time-stamp token: a content of its type, of no bytes
abbrev token : List ℕ
token =
    0x30 ∷ 0x3a ∷ 0x06 ∷ 0x09 ∷ (signed_data_id ++
    (0xa0 ∷ 0x2d ∷ 0x30 ∷ 0x2b ∷ 0x02 ∷ 0x01 ∷ 0x03 ∷ 0x31 ∷ 0x00 ∷ 0x30 ∷ 0x11 ∷ 0x06 ∷ 0x0b ∷ (time_stamp_info_id ++
    (0xa0 ∷ 0x02 ∷ 0x04 ∷ 0x00 ∷ 0x31 ∷ 0x11 ∷ signer_of 1))))

-- a version where the identifier is due; the least file, with nothing and with a byte behind it; a version that no signer has;
-- the least file as one without signers, and as a time-stamp token; the least token as a token, as a file, and without its last byte
abbrev pub Samples : Type 0
Samples =
    (break_of AtLeastOne Any (0x30 ∷ 0x03 ∷ 0x02 ∷ 0x01 ∷ 0x05 ∷ []) ≡ Some 2)
    × (length least ≡ 45)
    × (break_of AtLeastOne Any least ≡ None)
    × (break_of AtLeastOne Any (least ++ (0x80 ∷ [])) ≡ Some 45)
    × (break_of AtLeastOne Any (around (signer_of 4)) ≡ Some 30)
    × (break_of ExactlyOne Any least ≡ None)
    × (break_of Nobody Any least ≡ Some 28)
    × (break_of ExactlyOne TimeStampInfo least ≡ Some 24)
    × (break_of ExactlyOne TimeStampInfo token ≡ None)
    × (break_of AtLeastOne Any token ≡ None)
    × (break_of ExactlyOne TimeStampInfo (take 59 token) ≡ Some 0)
