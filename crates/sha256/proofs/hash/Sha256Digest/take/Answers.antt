use Rattle.sha256.proofs.hash.Sha256Digest.take.Goals as goal

pub returns : goal.returns
returns c = λ xs is. let took = c.take.ensures.took xs is in record { fits = took.fits; over = took.over }
