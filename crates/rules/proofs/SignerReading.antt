-- Signers that stand in a file are read one by one.
use Rattle.std.proofs.Common.{◌≡◌, ℕ, ◌+◌, ◌-◌, List, [], ◌∷◌, Some, None, Ok, Option, refl, ap, subst, arith}
use Rattle.der.specs.Trees.{leaf, node, none, more}
use Rattle.fields.specs.Placed.{mapped, entries_for, if_first, placed_from}
use Rattle.cms.specs.Places.{signer_at}
use Rattle.cms.specs.Records.{signer_of}
use Rattle.fields.specs.Rules.{head_size, body_size, or_else}
use Rattle.cms.proofs.Served.{signer_served}
use Rattle.fields.proofs.Standing.{At, rest_at, inside_at, none_left}
use Rattle.model.specs.Parts.{Attribute, attribute_tree, row_of, maybe, version_tree, identifier_tree, algorithm_tree, signed_tree, unsigned_tree, Signer, signer_tree, six_fields}
use Rattle.model.specs.Shapes.{UnsignedShape, IfThere}
use Rattle.model.proofs.Keeping.{signer_kept}
use Rattle.rules.specs.Offsets.{behind, inside, signed_at, unsigned_at}
use Rattle.rules.specs.Signers.{FieldThere, SignerThere, Signers}
use Rattle.rules.specs.Standing.{Row}

pub row_moved : (levels : ℕ) (bs bs' : List ℕ) (at at' end end' : ℕ) (ms : List Attribute) → bs ≡ bs' → at ≡ at' → end ≡ end' → Row levels bs at end ms → Row levels bs' at' end' ms
row_moved levels bs bs' at at' end end' ms p q e r =
    subst (λ (x : ℕ). Row levels bs' at' x ms) e (subst (λ (x : ℕ). Row levels bs' x end ms) q (subst (λ (x : List ℕ). Row levels x at end ms) p r))

module _ (levels : ℕ) (file : List ℕ) (at end : ℕ) where
  stands_at : (ss : List Signer) → Signers levels file at end ss → At levels file at end (row_of signer_tree ss)
  stands_at ss r = record { valid = r.valid; bytes = r.bytes; order = r.order; inside = r.inside }

  pub signers_none : Signers levels file at end [] → at ≡ end
  signers_none r = none_left levels file at end (stands_at [] r)

  module _ (s : Signer) (rest : List Signer) (r : Signers levels file at end (s ∷ rest)) where
    stands : At levels file at end (more (signer_tree s) (row_of signer_tree rest))
    stands = stands_at (s ∷ rest) r

    pub first_signer : signer_of file at end ≡ Ok (signer_at (record { at = at; tree = signer_tree s }))
    first_signer =
        signer_served levels file at end (more (signer_tree s) (row_of signer_tree rest)) stands
        (ap (λ (o : Option ℕ). or_else o None) (signer_kept (at + head_size (signer_tree s)) s r.shape.0))

    pub other_signers : Signers levels file (at + head_size (signer_tree s) + body_size (signer_tree s)) end rest
    other_signers =
        let b = rest_at levels file at end (signer_tree s) (row_of signer_tree rest) stands in
        record { valid = b.valid; shape = r.shape.1; bytes = b.bytes; order = b.order; inside = b.inside }

    parts : At (levels - 1) file (at + head_size (signer_tree s)) (at + head_size (signer_tree s) + body_size (signer_tree s)) (six_fields s (maybe unsigned_tree s.unsigned none))
    parts = inside_at levels file at end (signer_tree s) (row_of signer_tree rest) stands 0x30 refl (λ z. omega arith)

    -- the fields one by one
    three : At (levels - 1) file (signed_at at s) (at + head_size (signer_tree s) + body_size (signer_tree s))
        (more (signed_tree s.signed) (more (node 0x30 s.algorithm) (more (leaf 4 s.signature) (maybe unsigned_tree s.unsigned none))))
    three =
        rest_at (levels - 1) file _ _ (algorithm_tree s.digest) _
        (rest_at (levels - 1) file _ _ (identifier_tree s.identifier) _ (rest_at (levels - 1) file _ _ (version_tree s.identifier) _ parts))

    six : At (levels - 1) file (unsigned_at at s) (at + head_size (signer_tree s) + body_size (signer_tree s)) (maybe unsigned_tree s.unsigned none)
    six =
        rest_at (levels - 1) file _ _ (leaf 4 s.signature) _
        (rest_at (levels - 1) file _ _ (node 0x30 s.algorithm) _ (rest_at (levels - 1) file _ _ (signed_tree s.signed) _ three))

    signed_at_lem : At (levels - 1 - 1) file (inside (signed_at at s) (signed_tree s.signed)) (behind (signed_at at s) (signed_tree s.signed)) (row_of attribute_tree s.signed)
    signed_at_lem = inside_at (levels - 1) file _ _ (signed_tree s.signed) _ three 0xa0 refl (λ z. omega arith)

    signed_row : Row (levels - 1 - 1) file (inside (signed_at at s) (signed_tree s.signed)) (behind (signed_at at s) (signed_tree s.signed)) s.signed
    signed_row = record { valid = signed_at_lem.valid; shape = r.shape.0.signed; bytes = signed_at_lem.bytes; order = signed_at_lem.order; inside = signed_at_lem.inside }

    -- it lies where the record says
    pub signer_there : SignerThere (levels - 1 - 1) file (signer_at (record { at = at; tree = signer_tree s })) at s
    signer_there = record {
      start = refl;
      from = refl;
      signed = signed_row;
      unsigned = by s.unsigned r.shape.0.unsigned six;
    }
      where
        by : (u : Option (List Attribute)) → IfThere UnsignedShape u → At (levels - 1) file (unsigned_at at s) (at + head_size (signer_tree s) + body_size (signer_tree s)) (maybe unsigned_tree u none) →
            FieldThere (levels - 1 - 1) file at (λ ms. inside (unsigned_at at s) (unsigned_tree ms)) (mapped entries_for (if_first 0xa1 (placed_from (unsigned_at at s) (maybe unsigned_tree u none)))) u
        by None k a = tt
        by (Some ms) k a =
            let i = inside_at (levels - 1) file _ _ (unsigned_tree ms) none a 0xa1 refl (λ z. omega arith) in
            (refl, record { valid = i.valid; shape = k.each; bytes = i.bytes; order = i.order; inside = i.inside })
