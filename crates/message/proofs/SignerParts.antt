-- The six fields of a signer, and what stands behind them.
use Rattle.std.proofs.Common.{ℕ, ◌+◌, ◌-◌, List, [], ◌∷◌, sym, refl, subst, arith}
use Rattle.der.specs.Trees.{Tree, leaf, node, Forest, none, more}
use Rattle.fields.specs.Rules.{head_size, body_size}
use Rattle.fields.proofs.Standing.{At, none_at, first_at, rest_at, inside_at, joined_at}
use Rattle.fields.proofs.Tags.{seq}
use Rattle.cms.specs.declared.located.Signer.{Signer as Located}
use Rattle.model.specs.Parts.{row, maybe, Signer, version_tree, identifier_tree, algorithm_tree, signed_tree, unsigned_tree, six_fields, signer_tree}
use Rattle.rules.specs.Offsets.{skip}
use Rattle.message.specs.Lies.{SignerLies}

-- some trees, and others behind them
abbrev pub before : List Tree → Forest → Forest
before [] rest = rest
before (t ∷ ts) rest = more t (before ts rest)

-- where they stand, the others stand behind them
pub others_at : (levels : ℕ) (file : List ℕ) (at end : ℕ) (ts : List Tree) (rest : Forest) → At levels file at end (before ts rest) → At levels file (skip at ts) end rest
others_at levels file at end [] rest a = a
others_at levels file at end (t ∷ ts) rest a = others_at levels file (at + head_size t + body_size t) end ts rest (rest_at levels file at end t (before ts rest) a)

-- and they stand alone up to there
pub alone_at : (levels : ℕ) (file : List ℕ) (at end : ℕ) (ts : List Tree) (rest : Forest) → At levels file at end (before ts rest) → At levels file at (skip at ts) (row ts)
alone_at levels file at end [] rest a = none_at levels file at at (omega (arith, a.order, a.inside)) refl
alone_at levels file at end (t ∷ ts) rest a =
    joined_at levels file at _ t (row ts) (first_at levels file at end t (before ts rest) a) (alone_at levels file (at + head_size t + body_size t) end ts rest (rest_at levels file at end t (before ts rest) a))

-- the six fields
abbrev pub six_trees : Signer → List Tree
six_trees s =
    version_tree s.identifier ∷ identifier_tree s.identifier ∷ algorithm_tree s.digest ∷ signed_tree s.signed ∷ node 0x30 s.algorithm ∷ leaf 4 s.signature ∷ []

-- the contents of a signer that lies there
pub signer_inside : (bytes : List ℕ) (x : Located) (s : Signer) (w : SignerLies bytes x s) →
    At (w.levels - 1) bytes x.whole.body x.whole.end (six_fields s (maybe unsigned_tree s.unsigned none))
signer_inside bytes x s w =
    subst (λ (y : Located). At (w.levels - 1) bytes y.whole.body y.whole.end (six_fields s (maybe unsigned_tree s.unsigned none))) (sym w.located)
    (inside_at w.levels bytes w.at _ (signer_tree s) none w.stands 0x30 refl seq)

pub unsigned_stands : (bytes : List ℕ) (x : Located) (s : Signer) (w : SignerLies bytes x s) →
    At (w.levels - 1) bytes x.signature.end x.whole.end (maybe unsigned_tree s.unsigned none)
unsigned_stands bytes x s w =
    subst (λ (y : Located). At (w.levels - 1) bytes y.signature.end y.whole.end (maybe unsigned_tree s.unsigned none)) (sym w.located)
    (others_at (w.levels - 1) bytes _ _ (six_trees s) (maybe unsigned_tree s.unsigned none) (inside_at w.levels bytes w.at _ (signer_tree s) none w.stands 0x30 refl seq))

pub six_stand : (bytes : List ℕ) (x : Located) (s : Signer) (w : SignerLies bytes x s) → At (w.levels - 1) bytes x.whole.body x.signature.end (six_fields s none)
six_stand bytes x s w =
    subst (λ (y : Located). At (w.levels - 1) bytes y.whole.body y.signature.end (six_fields s none)) (sym w.located)
    (alone_at (w.levels - 1) bytes _ _ (six_trees s) (maybe unsigned_tree s.unsigned none) (inside_at w.levels bytes w.at _ (signer_tree s) none w.stands 0x30 refl seq))
