-- Bytes that begin with an element are a file by its form, or have a first break.
use Rattle.std.proofs.Common.{◌≡◌, ℕ, ◌+◌, ◌-◌, ◌≤◌, List, [], ◌∷◌, ◌++◌, length, drop, cond, Some, None, Ok, Err, Option, Result, sym, refl, ap, ◌∙◌, subst, arith, MatchResult, IfOk}
use Rattle.std.specs.Result.{IsErrAnd}
use Rattle.std.proofs.lemmas.Result.{err_from_is_err_and, IfOk-at_ok}
use Rattle.std.proofs.lemmas.List.{take-append-drop, take_all, append-nil}
use Rattle.der.specs.declared.reader.Reader.{Reader}
use Rattle.der.specs.Spans.{part}
use Rattle.der.specs.Trees.{Tree, Valid, Starts, encode, tag_of}
use Rattle.cms.specs.declared.located.Message.{Message}
use Rattle.cms.specs.declared.settings.Settings.{Settings}
use Rattle.cms.specs.Grammar.{message, first_break, surplus_at}
use Rattle.fields.specs.Reads.{is, broke}
use Rattle.fields.specs.Rules.{Rule, parts_of, head_size, body_size, or_else}
use Rattle.cms.specs.Places.{message_at}
use Rattle.model.proofs.Filing.{no_break_is_file}
use Rattle.model.proofs.Unbroken.{some_not_none, cond_none, or_none}
use Rattle.message.specs.Formed.{FormedAt, BreaksAt}

-- a result whose error is mapped
pub mapped_err : {X E D : Type 0} (P : X → Type 0) (Q : D → Type 0) {post : E → D → Type 0} (r : Result X E) (s : Result X D) → MatchResult r (λ x. s ≡ Ok x) (λ e. IsErrAnd s (post e)) →
    ((x : X) → r ≡ Ok x → P x) → ((e : E) (d : D) → r ≡ Err e → post e d → Q d) → MatchResult s P Q
mapped_err {X} {E} {D} P Q (Ok x) s k ok err = subst (λ (y : Result X D). MatchResult y P Q) (sym k) (ok x refl)
mapped_err {X} {E} {D} P Q (Err e) s k ok err = let p = err_from_is_err_and s k in subst (λ (y : Result X D). MatchResult y P Q) (sym p.1) (err e p.0 refl p.2)

-- and what it was
pub mapped_ok : {X E D : Type 0} (post : E → D → Type 0) (r : Result X E) (s : Result X D) (x : X) → MatchResult r (λ y. s ≡ Ok y) (λ e. IsErrAnd s (post e)) → s ≡ Ok x → r ≡ Ok x
mapped_ok post (Ok y) s x k q = cc
mapped_ok post (Err e) s x k q = absurd (let p = err_from_is_err_and s k in let d = p.1 in let z : ◌≡◌ {A = ℕ} 0 1 = cc in omega arith)

pub mapped_from : {X E D : Type 0} (post : E → D → Type 0) (r : Result X E) (s : Result X D) (d : D) → MatchResult r (λ y. s ≡ Ok y) (λ e. IsErrAnd s (post e)) → s ≡ Err d → (e : E) × (r ≡ Err e) × post e d
mapped_from post (Ok y) s d k q = absurd (let z : ◌≡◌ {A = ℕ} 0 1 = cc in omega arith)
mapped_from post (Err e) s d k q =
    let p = err_from_is_err_and s k in
    let w = p.1 in
    let same : p.0 ≡ d = cc in
    (e, refl, subst (post e) same p.2)

-- the same, where the closure's meaning says which error each becomes
pub mapped_told : {X E D : Type 0} {post : E → D → Type 0} (told : E → D) (r : Result X E) (s : Result X D) (d : D) → MatchResult r (λ y. s ≡ Ok y) (λ e. IsErrAnd s (post e)) → s ≡ Err d →
    ((e : E) (x : D) → post e x → x ≡ told e) → (e : E) × (r ≡ Err e) × (d ≡ told e)
mapped_told {post = post} told r s d k q meaning =
    let m = mapped_from post r s d k q in
    (m.0, m.1, meaning m.0 d m.2)

-- what stands behind the first element
pub whole_part : (file : List ℕ) → part file 0 (length file) ≡ file
whole_part file = take_all (length file - 0) file (omega arith)

pub split_file : (levels : ℕ) (file : List ℕ) (n : ℕ) (s : Starts levels file n) → encode s.0 ++ drop n file ≡ part file 0 (length file)
split_file levels file n s = ap (λ (x : List ℕ). x ++ drop n file) s.2 ∙ take-append-drop n file ∙ sym (whole_part file)

-- a reader of all the bytes stands at the first element
reads_all : (levels : ℕ) (bytes : List ℕ) (n : ℕ) (s : Starts levels bytes n) (r : Reader) → (r.bytes.now ≡ bytes) × (r.at ≡ 0) × (r.end ≡ length bytes) →
    (r.end ≤ length r.bytes.now) × (encode s.0 ++ drop n bytes ≡ part r.bytes.now r.at r.end)
reads_all levels bytes n s r i = (omega (arith, i.2, ap length i.0), cc (split_file levels bytes n s, i.0, i.1, i.2))

-- what it reads breaks where the first element does, and lies where that says
module _ {X : Type 0} (levels : ℕ) (bytes : List ℕ) (n : ℕ) (s : Starts levels bytes n) (r : Reader) (i : (r.bytes.now ≡ bytes) × (r.at ≡ 0) × (r.end ≡ length bytes)) (x : Result X ℕ) where
  pub break_read : (break_of : ℕ → Tree → List ℕ → Option ℕ) →
      ((t : Tree) (surplus : List ℕ) (l : ℕ) → Valid t l → r.end ≤ length r.bytes.now → encode t ++ surplus ≡ part r.bytes.now r.at r.end → broke x ≡ break_of r.at t surplus) →
      broke x ≡ break_of 0 s.0 (drop n bytes)
  break_read break_of meaning =
      let a = reads_all levels bytes n s r i in
      meaning s.0 (drop n bytes) levels s.1 a.0 a.1 ∙ ap (λ (p : ℕ). break_of p s.0 (drop n bytes)) i.1

  pub place_read : (placed : ℕ → Tree → X) →
      ((t : Tree) (surplus : List ℕ) (l : ℕ) → Valid t l → r.end ≤ length r.bytes.now → encode t ++ surplus ≡ part r.bytes.now r.at r.end → IfOk x (λ y. y ≡ placed r.at t)) →
      (y : X) → x ≡ Ok y → y ≡ placed 0 s.0
  place_read placed places y q =
      let a = reads_all levels bytes n s r i in
      IfOk-at_ok (λ (z : X). z ≡ placed r.at s.0) q (places s.0 (drop n bytes) levels s.1 a.0 a.1) ∙ ap (λ (p : ℕ). placed p s.0) i.1

-- no break says that nothing is behind it
nothing_behind_lem : (p : ℕ) (surplus : List ℕ) → surplus_at p surplus ≡ None → surplus ≡ []
nothing_behind_lem p [] e = refl
nothing_behind_lem p (b ∷ bs) e = absurd (some_not_none p e)

-- a break of the first element, as it is read
pub breaks_at : (break_of : ℕ → Tree → List ℕ → Option ℕ) (levels : ℕ) (bytes : List ℕ) (n : ℕ) (s : Starts levels bytes n) (p : ℕ) → break_of 0 s.0 (drop n bytes) ≡ Some p →
    BreaksAt break_of levels bytes p
breaks_at break_of levels bytes n s p e = record {
  tree = s.0;
  surplus = drop n bytes;
  valid = s.1;
  bytes_are = split_file levels bytes n s ∙ whole_part bytes;
  first = e;
}

-- where an element tagged 30 has no break by a rule, and nothing behind it, the bytes are that element
pub whole_by : (rule : Rule) (levels : ℕ) (bytes : List ℕ) (n : ℕ) (s : Starts levels bytes n) →
    cond (is 0x30 (tag_of s.0)) (or_else (rule (0 + head_size s.0) (parts_of s.0)) (surplus_at (0 + head_size s.0 + body_size s.0) (drop n bytes))) (Some 0) ≡ None →
    (drop n bytes ≡ []) × (bytes ≡ encode s.0)
whole_by rule levels bytes n s e =
    let t = s.0 in
    let c = cond_none (is 0x30 (tag_of t)) (or_else (rule (0 + head_size t) (parts_of t)) (surplus_at (0 + head_size t + body_size t) (drop n bytes))) 0 e in
    let o = or_none (rule (0 + head_size t) (parts_of t)) (surplus_at (0 + head_size t + body_size t) (drop n bytes)) c.1 in
    let behind : drop n bytes ≡ [] = nothing_behind_lem (0 + head_size t + body_size t) (drop n bytes) o.1 in
    (behind, sym (whole_part bytes) ∙ sym (split_file levels bytes n s) ∙ ap (λ (x : List ℕ). encode t ++ x) behind ∙ append-nil (encode t))

pub formed_at : (settings : Settings) (levels : ℕ) (file : List ℕ) (n : ℕ) (s : Starts levels file n) (m : Message) → first_break settings 0 s.0 (drop n file) ≡ None → m ≡ message_at 0 s.0 →
    FormedAt settings levels file m
formed_at settings levels file n s m e q =
    let w = whole_by (message settings) levels file n s e in
    let f = no_break_is_file settings 0 levels s.0 s.1 (ap (first_break settings 0 s.0) (sym w.0) ∙ e) in (
      f.0,
      record {
        shape = f.1;
        valid = subst (λ (x : Tree). Valid x levels) f.2 s.1;
        bytes_are = w.1 ∙ ap encode f.2;
      },
      q ∙ ap (message_at 0) f.2,
    )
