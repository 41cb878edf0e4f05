-- The pieces of a stamp, joined, are the stamp.
use Rattle.std.proofs.Common.{◌≡◌, ℕ, List, [], ◌++◌, ap, ◌∙◌}
use Rattle.std.proofs.lemmas.List.{append-nil}
use Rattle.der.specs.Trees.{framed}
use Rattle.der.specs.declared.written.HeaderBytes.{HeaderBytes}
use Rattle.compose.specs.declared.headers.Headers.{Headers}
use Rattle.compose.specs.Headed.{bytes_of, Heads}
use Rattle.compose.specs.Composed.{index_type, set_bytes, carrier_bytes, unsigned_bytes, signer_bytes, signers_bytes, data_bytes, field_bytes, message_bytes, values_bytes, stamp_type, stamp_bytes}
use Rattle.compose.specs.Heads.{HeadsAll, identifier_bytes}

-- a header before contents
headed : (p : List ℕ) (h : HeaderBytes) (tag : ℕ) (body other : List ℕ) → p ≡ bytes_of h → other ≡ body → Heads h tag body → p ++ other ≡ framed tag body
headed p h tag body other e q k = ap (λ (y : List ℕ). p ++ y) q ∙ ap (λ (y : List ℕ). y ++ body) e ∙ k

-- from the signer on
abbrev inner_pieces : List ℕ → List ℕ → List ℕ → List ℕ → List ℕ → List ℕ → List ℕ
inner_pieces signer six unsigned carrier set index = signer ++ (six ++ (unsigned ++ (carrier ++ (index_type ++ (set ++ (index ++ []))))))

inner_joined : (h : Headers) (front six index p₁ p₂ p₃ p₄ : List ℕ) → p₁ ≡ bytes_of h.inner.signer → p₂ ≡ bytes_of h.inner.unsigned → p₃ ≡ bytes_of h.inner.carrier → p₄ ≡ bytes_of h.inner.set →
    HeadsAll h front six index → inner_pieces p₁ six p₂ p₃ p₄ index ≡ signer_bytes six index
unfolding set_bytes carrier_bytes unsigned_bytes signer_bytes
inner_joined h front six index p₁ p₂ p₃ p₄ e₁ e₂ e₃ e₄ k =
    let a = headed p₄ h.inner.set 0x31 index (index ++ []) e₄ (append-nil index) k.inner.set in
    let b = headed p₃ h.inner.carrier 0x30 (index_type ++ set_bytes index) _ e₃ (ap (λ (y : List ℕ). index_type ++ y) a) k.inner.carrier in
    let c = headed p₂ h.inner.unsigned 0xa1 (carrier_bytes index) _ e₂ b k.inner.unsigned in
    headed p₁ h.inner.signer 0x30 (six ++ unsigned_bytes index) _ e₁ (ap (λ (y : List ℕ). six ++ y) c) k.inner.signer

pub pieces_joined : (h : Headers) (front six index p₁ p₂ p₃ p₄ p₅ p₆ q₁ q₂ q₃ q₄ : List ℕ) →
    p₁ ≡ bytes_of h.outer.stamp → p₂ ≡ bytes_of h.outer.values → p₃ ≡ bytes_of h.outer.message → p₄ ≡ bytes_of h.outer.field → p₅ ≡ bytes_of h.outer.«data» → p₆ ≡ bytes_of h.outer.signers →
    q₁ ≡ bytes_of h.inner.signer → q₂ ≡ bytes_of h.inner.unsigned → q₃ ≡ bytes_of h.inner.carrier → q₄ ≡ bytes_of h.inner.set → HeadsAll h front six index →
    p₁ ++ (stamp_type ++ (p₂ ++ (p₃ ++ (identifier_bytes ++ (p₄ ++ (p₅ ++ (front ++ (p₆ ++ inner_pieces q₁ six q₂ q₃ q₄ index)))))))) ≡ stamp_bytes identifier_bytes front six index
unfolding signers_bytes data_bytes field_bytes message_bytes values_bytes stamp_bytes
pieces_joined h front six index p₁ p₂ p₃ p₄ p₅ p₆ q₁ q₂ q₃ q₄ e₁ e₂ e₃ e₄ e₅ e₆ f₁ f₂ f₃ f₄ k =
    let a = inner_joined h front six index q₁ q₂ q₃ q₄ f₁ f₂ f₃ f₄ k in
    let b = headed p₆ h.outer.signers 0x31 (signer_bytes six index) _ e₆ a k.outer.signers in
    let c = headed p₅ h.outer.«data» 0x30 (front ++ signers_bytes six index) _ e₅ (ap (λ (y : List ℕ). front ++ y) b) k.outer.«data» in
    let d = headed p₄ h.outer.field 0xa0 (data_bytes front six index) _ e₄ c k.outer.field in
    let m = headed p₃ h.outer.message 0x30 (identifier_bytes ++ field_bytes front six index) _ e₃ (ap (λ (y : List ℕ). identifier_bytes ++ y) d) k.outer.message in
    let v = headed p₂ h.outer.values 0x31 (message_bytes identifier_bytes front six index) _ e₂ m k.outer.values in
    headed p₁ h.outer.stamp 0x30 (stamp_type ++ values_bytes identifier_bytes front six index) _ e₁ (ap (λ (y : List ℕ). stamp_type ++ y) v) k.outer.stamp
