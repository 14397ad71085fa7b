use Rattle.std.proofs.Common.{arith}
use Rattle.std.proofs.lemmas.Grind.{common_steps}
use Rattle.drives.specs.Pair.{naming'}
use Rattle.drives_told.proofs.naming.Goals as goal

pub returns-then-not-of_disk : goal.returns-then-not-of_disk
unfolding naming'
returns-then-not-of_disk c = grind (arith, common_steps)

pub returns-then-n-eq0 : goal.returns-then-n-eq0
unfolding naming'
returns-then-n-eq0 c = grind (arith, common_steps)

pub returns-else-n-eq0 : goal.returns-else-n-eq0
unfolding naming'
returns-else-n-eq0 c = grind (arith, common_steps)
