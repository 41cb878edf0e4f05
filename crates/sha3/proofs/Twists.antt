-- χ of one lane a, of b and c that follow it, where some of the three are kept turned. Assumes nothing.
use Rattle.std.proofs.Common.{◌≡◌, ℕ, ◌-◌, ◌^◌, ◌<◌, List, [], ◌∷◌, ◌++◌, sym, ap, ◌∙◌}
use lib.Bits.{bit_and, bit_or, bit_xor, xor_zero_r}
use Rattle.sha3.specs.Turned.{ones}
use Rattle.sha3.proofs.Bits.{flip, flip_flip, flip_lt, flip_xor, not_flip, or_flip, xor_flip}

-- the complement of a lane that is kept as it is, and of one that is kept turned
not_plain : (b : ℕ) → b < 2 ^ 64 → ones - bit_xor b 0 ≡ flip b
not_plain b h = ap (λ z. ones - z) (xor_zero_r b) ∙ not_flip b h

not_turned : (b : ℕ) → b < 2 ^ 64 → ones - flip b ≡ b
not_turned b h = not_flip (flip b) (flip_lt b h) ∙ flip_flip b

-- the second operand of χ's sum, or its turned form
module _ (b c : ℕ) (hb : b < 2 ^ 64) (hc : c < 2 ^ 64) where
  and_tp : bit_and b c ≡ bit_and (ones - flip b) (bit_xor c 0)
  and_tp = ap (λ z. bit_and z c) (sym (not_turned b hb)) ∙ ap (bit_and (ones - flip b)) (sym (xor_zero_r c))

  and_pp : bit_and (ones - b) c ≡ bit_and (ones - bit_xor b 0) (bit_xor c 0)
  and_pp = ap (λ z. bit_and (ones - z) c) (sym (xor_zero_r b)) ∙ ap (bit_and (ones - bit_xor b 0)) (sym (xor_zero_r c))

  or_pt : bit_or b c ≡ flip (bit_and (ones - bit_xor b 0) (flip c))
  or_pt = or_flip b c hb hc ∙ ap (λ z. flip (bit_and z (flip c))) (sym (not_plain b hb))

  or_tt : bit_or (ones - b) c ≡ flip (bit_and (ones - flip b) (flip c))
  or_tt =
      ap (λ z. bit_or z c) (not_flip b hb)
      ∙ or_flip (flip b) c (flip_lt b hb) hc
      ∙ ap (λ z. flip (bit_and z (flip c))) (flip_flip b ∙ sym (not_turned b hb))

  or_pp : bit_or b (ones - c) ≡ flip (bit_and (ones - bit_xor b 0) (bit_xor c 0))
  or_pp =
      ap (bit_or b) (not_flip c hc)
      ∙ or_flip b (flip c) hb (flip_lt c hc)
      ∙ ap (λ z. flip (bit_and z (flip (flip c)))) (sym (not_plain b hb))
      ∙ ap (λ z. flip (bit_and (ones - bit_xor b 0) z)) (flip_flip c ∙ sym (xor_zero_r c))

-- the sum: what the code adds is t, what χ adds is u
module _ (a t u : ℕ) where
  plain_plain : t ≡ u → bit_xor (bit_xor a t) 0 ≡ bit_xor (bit_xor a 0) u
  plain_plain e = xor_zero_r (bit_xor a t) ∙ ap (bit_xor a) e ∙ ap (λ z. bit_xor z u) (sym (xor_zero_r a))

  turned_turned : t ≡ u → flip (bit_xor a t) ≡ bit_xor (flip a) u
  turned_turned e = flip_xor a t ∙ ap (bit_xor (flip a)) e

  plain_turned : t ≡ flip u → bit_xor (bit_xor a t) 0 ≡ bit_xor (flip a) u
  plain_turned e = xor_zero_r (bit_xor a t) ∙ ap (bit_xor a) e ∙ xor_flip a u

  turned_plain : t ≡ flip u → flip (bit_xor a t) ≡ bit_xor (bit_xor a 0) u
  turned_plain e =
      ap (λ z. flip (bit_xor a z)) e ∙ ap flip (xor_flip a u) ∙ flip_xor (flip a) u ∙ ap (λ z. bit_xor z u) (flip_flip a ∙ sym (xor_zero_r a))

  module _ (ha : a < 2 ^ 64) where
    not_plain_sum : t ≡ flip u → bit_xor (bit_xor (ones - a) t) 0 ≡ bit_xor (bit_xor a 0) u
    not_plain_sum e =
        xor_zero_r (bit_xor (ones - a) t)
        ∙ ap (λ z. bit_xor z t) (not_flip a ha)
        ∙ ap (bit_xor (flip a)) e
        ∙ xor_flip (flip a) u
        ∙ ap (λ z. bit_xor z u) (flip_flip a ∙ sym (xor_zero_r a))

    not_turned_sum : t ≡ u → bit_xor (bit_xor (ones - a) t) 0 ≡ bit_xor (flip a) u
    not_turned_sum e = xor_zero_r (bit_xor (ones - a) t) ∙ ap (λ z. bit_xor z t) (not_flip a ha) ∙ ap (bit_xor (flip a)) e

-- the nine forms that the planes have
module _ (a b c : ℕ) (ha : a < 2 ^ 64) (hb : b < 2 ^ 64) (hc : c < 2 ^ 64) where
  pub or_tpt : bit_xor (bit_xor a (bit_or b c)) 0 ≡ bit_xor (flip a) (bit_and (ones - bit_xor b 0) (flip c))
  or_tpt = plain_turned a _ _ (or_pt b c hb hc)

  pub or_ptt : flip (bit_xor a (bit_or (ones - b) c)) ≡ bit_xor (bit_xor a 0) (bit_and (ones - flip b) (flip c))
  or_ptt = turned_plain a _ _ (or_tt b c hb hc)

  pub and_ttp : flip (bit_xor a (bit_and b c)) ≡ bit_xor (flip a) (bit_and (ones - flip b) (bit_xor c 0))
  and_ttp = turned_turned a _ _ (and_tp b c hb hc)

  pub and_ptp : bit_xor (bit_xor a (bit_and b c)) 0 ≡ bit_xor (bit_xor a 0) (bit_and (ones - flip b) (bit_xor c 0))
  and_ptp = plain_plain a _ _ (and_tp b c hb hc)

  pub or_tpp : bit_xor (bit_xor a (bit_or b (ones - c))) 0 ≡ bit_xor (flip a) (bit_and (ones - bit_xor b 0) (bit_xor c 0))
  or_tpp = plain_turned a _ _ (or_pp b c hb hc)

  pub or_ppt : flip (bit_xor a (bit_or b c)) ≡ bit_xor (bit_xor a 0) (bit_and (ones - bit_xor b 0) (flip c))
  or_ppt = turned_plain a _ _ (or_pt b c hb hc)

  pub and_tpp : flip (bit_xor a (bit_and (ones - b) c)) ≡ bit_xor (flip a) (bit_and (ones - bit_xor b 0) (bit_xor c 0))
  and_tpp = turned_turned a _ _ (and_pp b c hb hc)

  pub not_or_ppt : bit_xor (bit_xor (ones - a) (bit_or b c)) 0 ≡ bit_xor (bit_xor a 0) (bit_and (ones - bit_xor b 0) (flip c))
  not_or_ppt = not_plain_sum a _ _ ha (or_pt b c hb hc)

  pub not_and_ttp : bit_xor (bit_xor (ones - a) (bit_and b c)) 0 ≡ bit_xor (flip a) (bit_and (ones - flip b) (bit_xor c 0))
  not_and_ttp = not_turned_sum a _ _ ha (and_tp b c hb hc)

pub five_lanes : {a b c d e a' b' c' d' e' : ℕ} → a ≡ a' → b ≡ b' → c ≡ c' → d ≡ d' → e ≡ e' → ◌≡◌ {A = List ℕ} (a ∷ b ∷ c ∷ d ∷ e ∷ []) (a' ∷ b' ∷ c' ∷ d' ∷ e' ∷ [])
five_lanes p q r s t = cc

pub five_planes : {a b c d e a' b' c' d' e' : List ℕ} → a ≡ a' → b ≡ b' → c ≡ c' → d ≡ d' → e ≡ e' → a ++ (b ++ (c ++ (d ++ e))) ≡ a' ++ (b' ++ (c' ++ (d' ++ e')))
five_planes p q r s t = cc
