-- Attributes that stand back to back in a file.
use Rattle.std.specs.Prelude.{◌≡◌, ℕ, ◌≤◌, List, [], ◌∷◌, length, Some, None, Option}
use Rattle.std.specs.List.{AllByRecursion}
use Rattle.der.specs.Spans.{part}
use Rattle.der.specs.declared.reader.Reader.{Reader}
use Rattle.der.specs.declared.span.Span.{Span}
use Rattle.fields.specs.declared.located.Entries.{Entries}
use Rattle.der.specs.Trees.{Tree, Forest, Valids, encodes}
use Rattle.fields.specs.Placed.{located}
use Rattle.cms.specs.declared.located.Attribute.{Attribute as Located}
use Rattle.model.specs.Parts.{Attribute, attribute_tree, row_of, row}
use Rattle.model.specs.Shapes.{AttributeShape}

-- these attributes stand from `at` to `end`
pub record Row (levels : ℕ) (file : List ℕ) (at end : ℕ) (ms : List Attribute) : Type 0 where
  pub valid : Valids (row_of attribute_tree ms) levels
  pub shape : AllByRecursion AttributeShape ms
  pub bytes : part file at end ≡ encodes (row_of attribute_tree ms)
  pub order : at ≤ end
  pub inside : end ≤ length file

-- these attributes stand from where a reader is to its end
abbrev pub RowAt : ℕ → Reader → List Attribute → Type 0
RowAt levels reader ms = Row levels reader.bytes.now reader.at reader.end ms

-- these elements stand from `at` to `end`
pub record Trees (levels : ℕ) (file : List ℕ) (at end : ℕ) (ts : Forest) : Type 0 where
  pub valid : Valids ts levels
  pub bytes : part file at end ≡ encodes ts
  pub order : at ≤ end
  pub inside : end ≤ length file

-- these are all values of an attribute
abbrev pub AreValues : ℕ → List ℕ → Entries → List Tree → Type 0
AreValues levels file values vs = Trees levels file values.field.body values.field.end (row vs) × (values.count ≡ length vs)

-- where the one element lies that begins at `p`
abbrev pub single_at : ℕ → List Tree → Option Span
single_at p [] = None
single_at p (t ∷ []) = Some (located p t)
single_at p (t ∷ u ∷ ts) = None

-- an attribute lies where the record says: its type, and its values in their field
pub record There (levels : ℕ) (file : List ℕ) (x : Located) (a : Attribute) : Type 0 where
  pub kind : part file x.kind.body x.kind.end ≡ a.kind
  pub count : x.values.count ≡ length a.values
  pub values : Trees levels file x.values.field.body x.values.field.end (row a.values)
