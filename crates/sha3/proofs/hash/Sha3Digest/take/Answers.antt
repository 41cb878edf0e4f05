use Rattle.sha3.proofs.hash.Sha3Digest.take.Goals as goal

pub returns : goal.returns
returns c = λ xs is. let took = c.take.ensures.took xs is in record { fits = took.fits; over = took.over }
