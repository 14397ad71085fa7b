use Rattle.std.proofs.Common.{arith}
use Rattle.std.proofs.lemmas.Grind.{common_steps}
use Rattle.drives.specs.Pair.{of_both}
use Rattle.drives_told.proofs.of_both.Goals as goal

pub returns-in-0-eq0 : goal.returns-in-0-eq0
unfolding of_both
returns-in-0-eq0 c = grind (arith, common_steps)

pub returns-in-0-default : goal.returns-in-0-default
unfolding of_both
returns-in-0-default c = grind (arith, common_steps)

pub returns-in_default : goal.returns-in_default
unfolding of_both
returns-in_default c = grind (arith, common_steps)
