use Rattle.layout.proofs.OneStep.{digit_at}
use Rattle.layout.proofs.is_set.Goals as goal

pub returns : goal.returns
returns c = simp digit_at
