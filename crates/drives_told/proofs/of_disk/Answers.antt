use Rattle.std.proofs.Common.{arith}
use Rattle.std.proofs.lemmas.Grind.{common_steps}
use Rattle.meaning.specs.Lists.{all, any}
use Rattle.drives.specs.Pair.{of_disk}
use Rattle.drives_told.proofs.of_disk.Goals as goal

pub returns-in_default : goal.returns-in_default
unfolding of_disk all any
returns-in_default c = grind (arith, common_steps)

pub returns-in_default-2 : goal.returns-in_default-2
unfolding of_disk all any
returns-in_default-2 c = grind (arith, common_steps)

pub returns-in-1 : goal.returns-in-1
unfolding of_disk all any
returns-in-1 c = grind (arith, common_steps)

pub returns-in-1-2 : goal.returns-in-1-2
unfolding of_disk all any
returns-in-1-2 c = grind (arith, common_steps)
