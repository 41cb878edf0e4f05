-- Opening a file, and one of its signers.
use Rattle.std.proofs.Common.{◌≡◌, ℕ, zero, suc, ◌+◌, ◌-◌, List, [], ◌∷◌, take, Some, None, Ok, Err, Result, sym, refl, ap, ◌∙◌, subst, arith, MatchResult}
use Rattle.std.specs.List.{slice_get}
use Rattle.der.specs.declared.reader.Reader.{Reader}
use Rattle.fields.specs.Rules.{head_size, body_size}
use Rattle.fields.proofs.Standing.{first_at}
use Rattle.cms.specs.declared.located.Message.{Message}
use Rattle.cms.specs.declared.located.Signer.{Signer as Located}
use Rattle.cms.specs.Places.{signer_at}
use Rattle.model.specs.Parts.{row_of, Signer, signer_tree}
use Rattle.model.specs.Files.{File}
use Rattle.rules.specs.Signers.{Signers, signer_number}
use Rattle.rules.proofs.SignerReading.{other_signers}
use Rattle.message.specs.Formed.{LiesAt}
use Rattle.message.specs.Lies.{SignerLies}
use Rattle.message.proofs.Lying.{file_lies}
use Rattle.archive.specs.declared.refusal.Refusal.{Refusal}
use Rattle.archive.specs.declared.refusal.Refusal.TheVariants.{Length, Element, Field, Count, Rule, NoSigner}
use Rattle.archive.specs.Accepted.{file_settings, Fits, Accepted}
use Rattle.archive.specs.Steps.{AcceptedAt, RefusedFile}
use Rattle.archive.specs.Opened.{Opens, OpensAt, Shut, SignerOpened}
use Rattle.archive.specs.Outcome.{Refused}

-- `&buffer[0..n]`
pub front_is : (buffer : List ℕ) (n : ℕ) → take (n - 0) buffer ≡ take n buffer
front_is buffer n = ap (λ (m : ℕ). take m buffer) (let e : n - 0 ≡ n = omega arith in e)

shut_by : (buffer : List ℕ) (n : ℕ) (e : Refusal) → Fits buffer n → RefusedFile (take n buffer) e → Shut buffer n e
shut_by buffer n Length h r = absurd r
shut_by buffer n (Element fault) h r = (h, r)
shut_by buffer n (Field p) h r = (h, r)
shut_by buffer n (Count p) h r = (h, r)
shut_by buffer n (Rule p) h r = (h, r)
shut_by buffer n NoSigner h r = absurd r

pub opens_by : (buffer : List ℕ) (n : ℕ) (r : Result Message Refusal) → Fits buffer n → MatchResult r (AcceptedAt (take (n - 0) buffer)) (RefusedFile (take (n - 0) buffer)) → MatchResult r (OpensAt buffer n) (Shut buffer n)
opens_by buffer n (Ok m) h k = (k.0, record { fits = h; accepted = subst (λ (x : List ℕ). Accepted x k.0) (front_is buffer n) k.1 }, k.2)
opens_by buffer n (Err e) h k = shut_by buffer n e h (subst (λ (x : List ℕ). RefusedFile x e) (front_is buffer n) k)

signers_moved : (levels : ℕ) (bs bs' : List ℕ) (at at' end end' : ℕ) (ss : List Signer) → bs ≡ bs' → at ≡ at' → end ≡ end' → Signers levels bs at end ss → Signers levels bs' at' end' ss
signers_moved levels bs bs' at at' end end' ss p q e r =
    subst (λ (x : ℕ). Signers levels bs' at' x ss) e (subst (λ (x : ℕ). Signers levels bs' x end ss) q (subst (λ (x : List ℕ). Signers levels x at end ss) p r))

-- a signer by its number lies where it is found
number_lies : (k levels : ℕ) (file : List ℕ) (at end : ℕ) (ss : List Signer) (x : Located) → Signers levels file at end ss → Some x ≡ signer_number k at ss →
    (s : Signer) × (slice_get ss k ≡ Some s) × SignerLies file x s
number_lies k levels file at end [] x r e = absurd (let z : ◌≡◌ {A = ℕ} 0 1 = cc in omega arith)
number_lies zero levels file at end (s ∷ ss) x r e =
    let q : signer_at (record { at = at; tree = signer_tree s }) ≡ x = some_same (sym e) in (
      s,
      refl,
      record {
        levels = levels;
        at = at;
        stands = first_at levels file at end (signer_tree s) (row_of signer_tree ss) (record { valid = r.valid; bytes = r.bytes; order = r.order; inside = r.inside });
        located = sym q;
      },
    )
  where
    some_same : {y z : Located} → Some y ≡ Some z → y ≡ z
    some_same p = cc
number_lies (suc k) levels file at end (s ∷ ss) x r e =
    number_lies k levels file (at + head_size (signer_tree s) + body_size (signer_tree s)) end ss x (other_signers levels file at end s ss r) e

-- or there is none
no_number : (k p : ℕ) (ss : List Signer) → None ≡ signer_number k p ss → slice_get ss k ≡ None
no_number k p [] e = refl
no_number zero p (s ∷ ss) e = absurd (let z : ◌≡◌ {A = ℕ} 0 1 = cc in omega arith)
no_number (suc k) p (s ∷ ss) e = no_number k (p + head_size (signer_tree s) + body_size (signer_tree s)) ss e

-- a signer is looked for in the file that is opened
module _ (buffer : List ℕ) (n k : ℕ) (f : File) (m : Message) (r : Reader) (o : Opens buffer n f) (l : LiesAt m f)
    (i : (r.bytes.now ≡ take (n - 0) buffer) × (r.at ≡ m.signers.field.body) × (r.end ≡ m.signers.field.end)) where
  pub signers_read : (levels : ℕ) × Signers levels r.bytes.now r.at r.end f.signers
  signers_read =
      let w = file_lies file_settings 32 (take n buffer) f o.accepted.formed m l in
      (w.levels, signers_moved w.levels (take n buffer) r.bytes.now _ r.at _ r.end f.signers (sym (front_is buffer n) ∙ sym i.0) (sym i.1) (sym i.2) w.signers)

  pub signer_opened : (x : Located) → Some x ≡ signer_number k r.at f.signers → SignerOpened buffer n k (record { message = m; signer = x })
  signer_opened x q =
      let w = number_lies k signers_read.0 r.bytes.now r.at r.end f.signers x signers_read.1 q in
      record {
        file = f;
        signer = w.0;
        opens = record { opens = o; signer = w.1 };
        message = l;
        lies = subst (λ (y : List ℕ). SignerLies y x w.0) (i.0 ∙ front_is buffer n) w.2;
      }

  pub signer_missing : None ≡ signer_number k r.at f.signers → Refused buffer n k NoSigner
  signer_missing q = (o.fits, (f, o.accepted, no_number k r.at f.signers q))
