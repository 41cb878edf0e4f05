-- How the elements of a file are read: each reading gives what it found, or the place where it breaks off.
use Rattle.std.specs.Prelude.{◌≡◌, ℕ, zero, suc, ◌+◌, ◌-◌, ◌<◌, ◌≤◌, Bool, cond, List, [], ◌∷◌, IfOk, Some, None, Ok, Err, Option, Result, ◌==◌, nat_lt}
use Rattle.std.specs.Str.{bytes_eq}
use Rattle.der.specs.declared.fault.Fault.{Fault}
use Rattle.der.specs.declared.reader.Reader.{Reader}
use Rattle.der.specs.declared.span.Span.{Span}
use Rattle.der.specs.Spans.{element_of, part}
use Rattle.fields.specs.declared.located.Number.{Number}
use Rattle.fields.specs.declared.located.Entries.{Entries}

infixl 10 ◌>>=◌
infixl 10 ◌>>◌
-- what `?` does
abbrev pub ◌>>=◌ : {X Y E : Type 0} → Result X E → (X → Result Y E) → Result Y E
◌>>=◌ (Ok x) next = next x
◌>>=◌ (Err e) next = Err e

abbrev pub ◌>>◌ : {X Y E : Type 0} → Result X E → Result Y E → Result Y E
◌>>◌ r next = r >>= (λ _. next)

abbrev pub placed : ℕ → Result Span Fault → Result Span ℕ
placed at (Ok s) = Ok s
placed at (Err f) = Err at

-- the element at `at`, in contents that go to `end`; where none is, the contents end at `at`
abbrev pub any_of : List ℕ → ℕ → ℕ → Result Span ℕ
any_of file at end = placed at (element_of file at end)

-- with one of these tags
abbrev pub tagged : ℕ → (ℕ → Bool) → Span → Result Span ℕ
tagged at tags e = cond (tags e.tag) (Ok e) (Err at)

abbrev pub allowed_of : (ℕ → Bool) → List ℕ → ℕ → ℕ → Result Span ℕ
allowed_of tags file at end = any_of file at end >>= tagged at tags

abbrev pub is : ℕ → ℕ → Bool
is tag other = other == tag

abbrev pub expect_of : ℕ → List ℕ → ℕ → ℕ → Result Span ℕ
expect_of tag file at end = allowed_of (is tag) file at end

-- the element at `at` if it has the tag
abbrev pub if_tagged : ℕ → Result Span ℕ → Option Span
if_tagged tag (Ok e) = cond (e.tag == tag) (Some e) None
if_tagged tag (Err p) = None

abbrev pub optional_of : ℕ → List ℕ → ℕ → ℕ → Option Span
optional_of tag file at end = if_tagged tag (any_of file at end)

-- nothing more
abbrev pub finish_of : ℕ → ℕ → Result (Unit {0}) ℕ
finish_of at end = cond (nat_lt at end) (Err at) (Ok tt)

-- one element with the tag, what is read inside it, and nothing behind it
abbrev pub whole_of : {X : Type 0} → ℕ → (List ℕ → Span → Result X ℕ) → List ℕ → ℕ → ℕ → Result X ℕ
whole_of tag inside file at end = do
  whole ← expect_of tag file at end
  x ← inside file whole
  finish_of whole.end end
  Ok x

-- an element tagged 02 of one byte
abbrev pub byte_in : ℕ → Span → List ℕ → Result Number ℕ
byte_in at e [] = Err at
byte_in at e (v ∷ []) = Ok (record { element = e; value = v })
byte_in at e (v ∷ w ∷ vs) = Err at

abbrev pub contents_at : List ℕ → Span → List ℕ
contents_at file e = part file e.body e.end

abbrev pub number_of : List ℕ → ℕ → ℕ → Result Number ℕ
number_of file at end = expect_of 2 file at end >>= (λ e. byte_in at e (contents_at file e))

-- an identifier, tagged 06, with these contents
abbrev pub same_as : List ℕ → List ℕ → ℕ → Span → Result Span ℕ
same_as identifier file at e = cond (bytes_eq (contents_at file e) identifier) (Ok e) (Err at)

abbrev pub named_of : List ℕ → List ℕ → ℕ → ℕ → Result Span ℕ
named_of identifier file at end = expect_of 6 file at end >>= same_as identifier file at

-- a reading of one element
abbrev pub Reading : Type 0
Reading = List ℕ → ℕ → ℕ → Result Span ℕ

-- elements back to back up to `end`, each read by `each`; how many there are
abbrev pub count_of : Reading → ℕ → List ℕ → ℕ → ℕ → ℕ → Result ℕ ℕ
count_of each zero file at end count = Ok count
count_of each (suc fuel) file at end count =
    cond (nat_lt at end) (each file at end >>= (λ e. count_of each fuel file e.end end (count + 1))) (Ok count)

abbrev pub list_of : Reading → List ℕ → ℕ → ℕ → Result ℕ ℕ
list_of each file at end = count_of each (end - at) file at end 0

-- the same, at least one
abbrev pub some_of : Reading → List ℕ → ℕ → ℕ → Result ℕ ℕ
some_of each file at end = cond (nat_lt at end) (list_of each file at end) (Err end)

-- a field that holds a list
abbrev pub entries_in : (List ℕ → ℕ → ℕ → Result ℕ ℕ) → List ℕ → Span → Result Entries ℕ
entries_in counted file field = counted file field.body field.end >>= (λ count. Ok (record { field = field; count = count }))

-- the field of a list, tagged so
abbrev pub list_field : ℕ → Reading → List ℕ → ℕ → ℕ → Result Entries ℕ
list_field tag each file at end = expect_of tag file at end >>= entries_in (list_of each) file

-- a field that may be there, with a reading of its contents
abbrev pub maybe_of : {Y : Type 0} → (Span → Result Y ℕ) → Option Span → Result (Option Y) ℕ
maybe_of inside None = Ok None
maybe_of inside (Some field) = inside field >>= (λ y. Ok (Some y))

-- the field of a list, tagged so, that may be there
abbrev pub maybe_list : ℕ → Reading → List ℕ → ℕ → ℕ → Result (Option Entries) ℕ
maybe_list tag each file at end = maybe_of (entries_in (list_of each) file) (optional_of tag file at end)

-- the offset behind it, where it would stand at `at`
abbrev pub behind : {Y : Type 0} → (Y → ℕ) → ℕ → Option Y → ℕ
behind stop at None = at
behind stop at (Some y) = stop y

abbrev pub span_stop : Span → ℕ
span_stop e = e.end

abbrev pub number_stop : Number → ℕ
number_stop n = n.element.end

abbrev pub entries_stop : Entries → ℕ
entries_stop entries = entries.field.end

-- where a reading breaks off
abbrev pub broke : {X : Type 0} → Result X ℕ → Option ℕ
broke (Ok x) = None
broke (Err p) = Some p

-- a test answers what is said of every tag
abbrev pub Tells : (ℕ → Bool → Type 0) → (ℕ → Bool) → Type 0
Tells answers tags = (tag : ℕ) (b : Bool) → answers tag b → b ≡ tags tag

-- a reader reads: what is defined of its bytes from its offset to its end, and then stands where that stops, further on
pub record Reads {X : Type 0} (outcome : List ℕ → ℕ → ℕ → Result X ℕ) (stop : X → ℕ) (was is : Reader) (r : Result X ℕ) : Type 0 where
  pub value : r ≡ outcome was.bytes.now was.at was.end
  pub bytes : is.bytes.now ≡ was.bytes.now
  pub end : is.end ≡ was.end
  pub moved : IfOk r (λ x. is.at ≡ stop x)
  pub ahead : IfOk r (λ x. was.at < stop x)
  pub within : IfOk r (λ x. stop x ≤ was.end)

-- the same of what may be there
pub record ReadsMaybe {Y : Type 0} (outcome : List ℕ → ℕ → ℕ → Result (Option Y) ℕ) (stop : Y → ℕ) (was is : Reader) (r : Result (Option Y) ℕ) : Type 0 where
  pub value : r ≡ outcome was.bytes.now was.at was.end
  pub bytes : is.bytes.now ≡ was.bytes.now
  pub end : is.end ≡ was.end
  pub moved : IfOk r (λ o. is.at ≡ behind stop was.at o)

-- an optional element: the reader goes behind it, or stays
pub record FindsOptional (tag : ℕ) (was is : Reader) (r : Option Span) : Type 0 where
  pub value : r ≡ optional_of tag was.bytes.now was.at was.end
  pub bytes : is.bytes.now ≡ was.bytes.now
  pub end : is.end ≡ was.end
  pub moved : is.at ≡ behind span_stop was.at r
