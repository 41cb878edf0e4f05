use Rattle.stamp_model.specs.declared.lists.ListName.TheVariants.{Certificates, Revocations, Attributes}
use Rattle.index.proofs.Areas.{put_then}
use Rattle.index.proofs.writing.put_lists.Goals as goal

pub returns : goal.returns
returns g c = λ trees s.
    put_then _ _ _ _ _ _ _ _ (c.put_list-revocations.ensures.list (trees Certificates) (s Certificates))
    (put_then _ _ _ _ _ _ _ _ (c.put_list-attributes.ensures.list (trees Revocations) (s Revocations)) (c.put_list.ensures.list (trees Attributes) (s Attributes)))
