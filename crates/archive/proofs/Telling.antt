-- What is told of a signer of a file that is opened.
use Rattle.std.proofs.Common.{◌≡◌, ℕ, zero, suc, ◌-◌, List, [], ◌∷◌, take, length, Some, None, Option, sym, refl, subst, arith}
use Rattle.std.specs.List.{AllByRecursion, slice_get}
use Rattle.der.specs.Trees.{Tree}
use Rattle.fields.specs.declared.located.Entries.{Entries}
use Rattle.cms.specs.declared.located.Signer.{Signer as Located}
use Rattle.model.specs.Parts.{given, Signer, signer_tree}
use Rattle.model.specs.Shapes.{SignerShape}
use Rattle.rules.specs.Offsets.{behind}
use Rattle.rules.specs.Signers.{SignerThere}
use Rattle.rules.proofs.SignerReading.{signer_there}
use Rattle.model.specs.Files.{File}
use Rattle.message.specs.Lies.{ListLies, Lies, entries_count, SignerLies}
use Rattle.message.proofs.Lying.{file_lies}
use Rattle.archive.specs.declared.answers.Reading.{Reading}
use Rattle.archive.specs.declared.opened.Opened.{Opened}
use Rattle.archive.specs.Accepted.{file_settings}
use Rattle.archive.specs.Opened.{SignerOpened}
use Rattle.archive.specs.Outcome.{Served, reading_of}
use Rattle.archive.proofs.Opening.{front_is}

-- a list has as many entries as its record says
pub counted : (levels : ℕ) (bytes : List ℕ) (o : Option Entries) (ts : Option (List Tree)) → ListLies levels bytes o ts → entries_count o ≡ length (given ts)
counted levels bytes None None l = refl
counted levels bytes None (Some ts) l = absurd l
counted levels bytes (Some e) None l = absurd l
counted levels bytes (Some e) (Some ts) l = l.0

-- each signer has its shape
pub shape_of : (k : ℕ) (ss : List Signer) (s : Signer) → AllByRecursion SignerShape ss → slice_get ss k ≡ Some s → SignerShape s
shape_of k [] s a e = absurd (let z : ◌≡◌ {A = ℕ} 0 1 = cc in omega arith)
shape_of zero (t ∷ ss) s a e = let q : t ≡ s = cc in subst SignerShape q a.0
shape_of (suc k) (t ∷ ss) s a e = shape_of k ss s a.1 e

-- a signer that lies there by the message's word does so by that of the rules
pub there_of : (bytes : List ℕ) (x : Located) (s : Signer) → SignerShape s → (w : SignerLies bytes x s) → SignerThere (w.levels - 1 - 1) bytes x w.at s
there_of bytes x s h w =
    subst (λ (y : Located). SignerThere (w.levels - 1 - 1) bytes y w.at s) (sym w.located)
    (signer_there w.levels bytes w.at (behind w.at (signer_tree s)) s []
    (record { valid = w.stands.valid; shape = (h, tt); bytes = w.stands.bytes; order = w.stands.order; inside = w.stands.inside }))

-- what is told of a signer of a file that is opened
pub served : (buffer : List ℕ) (n k : ℕ) (o : Opened) (reading : Reading) → SignerOpened buffer n k o →
    ((f : File) (levels p : ℕ) (s : Signer) → Lies (take (n - 0) buffer) o.message f → SignerThere levels (take (n - 0) buffer) o.signer p s → reading ≡ reading_of f s) → Served buffer n k reading
served buffer n k o reading w told =
    let opens = w.opens.opens in
    let formed = opens.accepted.formed in
    let lies = file_lies file_settings 32 (take n buffer) w.file formed o.message w.message in
    let shape = shape_of k w.file.signers w.signer formed.shape.signers w.opens.signer in
    let there = there_of (take n buffer) o.signer w.signer shape w.lies in
    let same = sym (front_is buffer n) in (
      opens.fits,
      (
        w.file,
        opens.accepted,
        (
          w.signer,
          w.opens.signer,
          told w.file (w.lies.levels - 1 - 1) w.lies.at w.signer (subst (λ (x : List ℕ). Lies x o.message w.file) same lies)
              (subst (λ (x : List ℕ). SignerThere (w.lies.levels - 1 - 1) x o.signer w.lies.at w.signer) same there),
        ),
      ),
    )
