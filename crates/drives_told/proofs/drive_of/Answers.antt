use Rattle.std.proofs.Common.{arith}
use Rattle.std.proofs.lemmas.Grind.{common_steps}
use Rattle.drives.specs.Pair.{drive_of}
use Rattle.drives_told.proofs.drive_of.Goals as goal

pub returns-then-c-eq0 : goal.returns-then-c-eq0
unfolding drive_of
returns-then-c-eq0 c = grind (arith, common_steps)

pub returns-else-c-eq0 : goal.returns-else-c-eq0
unfolding drive_of
returns-else-c-eq0 c = grind (arith, common_steps)
