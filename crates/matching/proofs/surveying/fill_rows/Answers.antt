use Rattle.stamp_model.specs.declared.lists.ListName.TheVariants.{Certificates, Revocations, Attributes}
use Rattle.index.specs.Standing.{entry_trees}
use Rattle.matching.proofs.Surveys.{surveyed}
use Rattle.matching.proofs.surveying.fill_rows.Goals as goal

pub returns : goal.returns
returns g c = λ trees x s t.
    surveyed g.G.Digest.value c.args.lists trees x _ _ _ _ _ _ _ _
    (c.put_rows-revocations.ensures.rows (trees Certificates) (entry_trees x Certificates) (s Certificates) (t Certificates))
    (c.put_rows-attributes.ensures.rows (trees Revocations) (entry_trees x Revocations) (s Revocations) (t Revocations))
    (c.put_rows-end.ensures.rows (trees Attributes) (entry_trees x Attributes) (s Attributes) (t Attributes))
    c.count_inside-inside.ensures.value
