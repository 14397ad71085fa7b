use Rattle.std.proofs.Common.{arith}
use Rattle.std.proofs.lemmas.Grind.{common_steps}
use Rattle.drives.specs.Pair.{fault_drive}
use Rattle.drives_told.proofs.fault_drive.Goals as goal

pub returns-in-0 : goal.returns-in-0
unfolding fault_drive
returns-in-0 c = grind (arith, common_steps)

pub returns-in-1 : goal.returns-in-1
unfolding fault_drive
returns-in-1 c = grind (arith, common_steps)

pub returns-in_default : goal.returns-in_default
unfolding fault_drive
returns-in_default c = grind (arith, common_steps)
