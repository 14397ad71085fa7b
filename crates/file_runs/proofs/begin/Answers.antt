use Rattle.file_runs.proofs.Steps.{along-start}
use mathlib.Core.Path.{refl}
use Rattle.file_runs.proofs.begin.Goals as goal

pub returns : goal.returns
returns c = (along-start _ _ _ c.requires.0 c.requires.1 c.slots.ensures.is, refl, refl)
