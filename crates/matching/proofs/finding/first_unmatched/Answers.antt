use Rattle.stamp_model.specs.declared.lists.ListName.TheVariants.{Certificates, Revocations, Attributes}
use Rattle.index.specs.Standing.{encoded_by, entry_trees}
use Rattle.matching.proofs.Missing.{found_first, found_second, found_third}
use Rattle.matching.proofs.finding.first_unmatched.Goals as goal

pub returns-in-Some : goal.returns-in-Some
returns-in-Some g c = λ trees x s t.
    found_first g.G.Digest.value (encoded_by trees) x c.in-Some.unmatched
    (c.in-Some.ensures (trees Certificates) (entry_trees x Certificates) (s Certificates) (t Certificates))

pub returns-in-Some-revocations : goal.returns-in-Some-revocations
returns-in-Some-revocations g c = λ trees x s t.
    found_second g.G.Digest.value (encoded_by trees) x c.in-Some-revocations.unmatched
    (c.in_default.ensures (trees Certificates) (entry_trees x Certificates) (s Certificates) (t Certificates))
    (c.in-Some-revocations.ensures (trees Revocations) (entry_trees x Revocations) (s Revocations) (t Revocations))

pub returns : goal.returns
returns g c = λ trees x s t.
    found_third g.G.Digest.value (encoded_by trees) x c.find_in_list.result
    (c.in_default.ensures (trees Certificates) (entry_trees x Certificates) (s Certificates) (t Certificates))
    (c.in_default-revocations.ensures (trees Revocations) (entry_trees x Revocations) (s Revocations) (t Revocations))
    (c.find_in_list.ensures (trees Attributes) (entry_trees x Attributes) (s Attributes) (t Attributes))
