-- When one file is as late a copy as another, and when it is later by appending alone.
use Rattle.std.specs.Prelude.{◌≡◌, List, ◌++◌}
use Rattle.std.specs.List.{ContainsAt as Has, AllZip, AllByRecursion}
use Rattle.der.specs.Trees.{Tree}
use Rattle.model.specs.Parts.{given, Attribute, Signer}
use Rattle.model.specs.Files.{File}

-- a way to compare a list with a later one
abbrev pub Keeping : Type 1
Keeping = (X : Type 0) → List X → List X → Type 0

-- every one of these stands among those
abbrev pub Included : Keeping
Included X xs ys = AllByRecursion (Has ys) xs

-- those begin with these
abbrev pub Begins : Keeping
Begins X xs ys = (more : List X) × (ys ≡ xs ++ more)

-- the same six fields, and unsigned attributes that are kept
pub record LaterSigner (Kept : Keeping) (s s' : Signer) : Type 0 where
  pub identifier : s'.identifier ≡ s.identifier
  pub digest : s'.digest ≡ s.digest
  pub signed : s'.signed ≡ s.signed
  pub algorithm : s'.algorithm ≡ s.algorithm
  pub signature : s'.signature ≡ s.signature
  pub unsigned : Kept Attribute (given s.unsigned) (given s'.unsigned)

-- the same but for the lists, which are kept; signer by signer
pub record LaterBy (Kept : Keeping) (f f' : File) : Type 0 where
  pub version : f'.version ≡ f.version
  pub digests : f'.digests ≡ f.digests
  pub content_type : f'.content_type ≡ f.content_type
  pub content : f'.content ≡ f.content
  pub certificates : Kept Tree (given f.certificates) (given f'.certificates)
  pub revocations : Kept Tree (given f.revocations) (given f'.revocations)
  pub signers : AllZip (LaterSigner Kept) f.signers f'.signers

-- f' is as late a copy as f: whatever stands in a list of f stands in that list of f'
abbrev pub AsLate : File → File → Type 0
AsLate f f' = LaterBy Included f f'

-- f' came from f by appending: each list of f begins that of f'
abbrev pub Grown : File → File → Type 0
Grown f f' = LaterBy Begins f f'
