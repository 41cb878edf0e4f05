-- An imprint input of a file is far shorter than what a digest takes.
use Rattle.std.proofs.Common.{ℕ, ◌≤◌, Bool, true, false, cond, ltb, List, [], ◌∷◌, ◌++◌, length, arith}
use Rattle.std.proofs.lemmas.List.{length-append}
use Rattle.der.specs.Trees.{Tree, Forest, none, more, length_bytes, encode, encodes}
use Rattle.model.specs.Parts.{maybe, unsigned_tree, six_fields}
use Rattle.model.specs.Files.{content_type_tree}
use Rattle.message.proofs.SignerParts.{six_trees}
use Rattle.stamp_model.specs.Covering.{six_bytes}
use Rattle.stamp_model.proofs.Telling.{type_valid, signer_valid}
use Rattle.imprint.specs.Laws.{NeverLong}

one_few : (a b : Bool) (x y z : List ℕ) → length x ≤ 3 → length y ≤ 3 → length z ≤ 3 → length (cond a x (cond b y z)) ≤ 3
one_few true b x y z p q r = p
one_few false true x y z p q r = q
one_few false false x y z p q r = r

length_bytes_few : (n : ℕ) → length (length_bytes n) ≤ 3
length_bytes_few n = one_few (ltb n 128) (ltb n 256) _ _ _ (omega arith) (omega arith) (omega arith)

-- some trees, and others behind them
abbrev before : List Tree → Forest → Forest
before [] rest = rest
before (t ∷ ts) rest = more t (before ts rest)

-- alone, they have no more bytes
alone_fewer : (ts : List Tree) (rest : Forest) → length (encodes (before ts none)) ≤ length (encodes (before ts rest))
alone_fewer [] rest = omega arith
alone_fewer (t ∷ ts) rest =
    let l = alone_fewer ts rest in
    omega (arith, length-append (encode t) (encodes (before ts none)), length-append (encode t) (encodes (before ts rest)))

pub never_long : NeverLong
never_long f s digest index k d x =
    let kind = (type_valid f k.valid).1.short in
    let signer = (signer_valid f s k).1.short in
    let six : length (six_bytes s) ≤ length (encodes (six_fields s (maybe unsigned_tree s.unsigned none))) = alone_fewer (six_trees s) (maybe unsigned_tree s.unsigned none) in
    omega (
      arith,
      length-append (encode (content_type_tree f)) (digest ++ (six_bytes s ++ index)),
      length-append digest (six_bytes s ++ index),
      length-append (six_bytes s) index,
      length_bytes_few (length f.content_type),
      length-append (length_bytes (length f.content_type)) f.content_type,
    )
