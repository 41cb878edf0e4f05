-- Identifiers of messages and contents.
use Rattle.std.specs.Prelude.{ℕ, List, [], ◌∷◌}

-- signed data
abbrev pub signed_data_id : List ℕ
signed_data_id = 0x2a ∷ 0x86 ∷ 0x48 ∷ 0x86 ∷ 0xf7 ∷ 0x0d ∷ 0x01 ∷ 0x07 ∷ 0x02 ∷ []

-- the content of a time-stamp token
abbrev pub time_stamp_info_id : List ℕ
time_stamp_info_id = 0x2a ∷ 0x86 ∷ 0x48 ∷ 0x86 ∷ 0xf7 ∷ 0x0d ∷ 0x01 ∷ 0x09 ∷ 0x10 ∷ 0x01 ∷ 0x04 ∷ []
