-- What is answered of an accepted file is told by it.
use Rattle.std.proofs.Common.{◌≡◌, ℕ, List, take, Some, None, Ok, Err, Option, Result, sym, ap, ◌∙◌, arith}
use Rattle.std.specs.List.{slice_get}
use Rattle.model.specs.Files.{File}
use Rattle.rules.specs.Attributes.{broken_rule_of}
use Rattle.message.specs.declared.fault.MessageFault.{MessageFault}
use Rattle.message.specs.declared.fault.MessageFault.TheVariants.{Element as Misformed, Field as Misfield, Count as Overfull}
use Rattle.message.specs.Formed.{Faulty}
use Rattle.message.proofs.Exact.{one_formed as message-one, never_both}
use Rattle.archive.specs.declared.answers.Reading.{Reading}
use Rattle.archive.specs.declared.refusal.Refusal.{Refusal}
use Rattle.archive.specs.declared.refusal.Refusal.TheVariants.{Length, Element, Field, Count, Rule, NoSigner}
use Rattle.archive.specs.Accepted.{file_settings, Fits, Formed, Accepted}
use Rattle.archive.specs.Laws.{Outcome}
use Rattle.archive.specs.Outcome.{reading_of, told_of}

pub one_formed : (bytes : List ℕ) (f f' : File) → Formed bytes f → Formed bytes f' → f ≡ f'
one_formed bytes f f' k k' = message-one file_settings file_settings 32 bytes f f' k k'

pub one_accepted : (bytes : List ℕ) (f f' : File) → Accepted bytes f → Accepted bytes f' → f ≡ f'
one_accepted bytes f f' a a' = one_formed bytes f f' a.formed a'.formed

-- an accepted file has no fault of its form
unfaulted : (bytes : List ℕ) (f : File) (fault : MessageFault) → Accepted bytes f → Faulty file_settings 32 bytes fault → ⊥
unfaulted bytes f fault a u = never_both file_settings 32 bytes fault f u (record { formed = a.formed; limits = a.limits })

not_both : (o : Option ℕ) (p : ℕ) → o ≡ Some p → o ≡ None → ⊥
not_both o p a b = let z : ◌≡◌ {A = ℕ} 0 1 = cc in omega arith

pub exactly : (buffer : List ℕ) (n k : ℕ) (r : Result Reading Refusal) → Outcome buffer n k r → (f : File) → Fits buffer n → Accepted (take n buffer) f → r ≡ told_of f (slice_get f.signers k)
exactly buffer n k (Ok reading) (h, (f', a', (s, q, e))) f _ a =
    let same = one_accepted (take n buffer) f' f a' a in
    ap {B = Result Reading Refusal} Ok (e ∙ ap (λ (x : File). reading_of x s) same) ∙ sym (ap (told_of f) (ap (λ (x : File). slice_get x.signers k) (sym same) ∙ q))
exactly buffer n k (Err Length) o f h a = absurd (o h)
exactly buffer n k (Err (Element fault)) o f h a = absurd (unfaulted (take n buffer) f (Misformed fault) a o.1)
exactly buffer n k (Err (Field p)) o f h a = absurd (unfaulted (take n buffer) f (Misfield p) a o.1)
exactly buffer n k (Err (Count p)) o f h a = absurd (unfaulted (take n buffer) f (Overfull p) a o.1)
exactly buffer n k (Err (Rule p)) (_, (f', k', c, d)) f h a =
    absurd (not_both (broken_rule_of f) p (ap broken_rule_of (sym (one_formed (take n buffer) f' f k' a.formed)) ∙ d) a.rules)
exactly buffer n k (Err NoSigner) (_, (f', a', q)) f h a =
    sym (ap (told_of f) (ap (λ (x : File). slice_get x.signers k) (sym (one_accepted (take n buffer) f' f a' a)) ∙ q))
