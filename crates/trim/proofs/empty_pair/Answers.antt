use Rattle.trim.proofs.empty_pair.Goals as goal

pub returns : goal.returns
returns c = c.set_pair.ensures
