use Rattle.std.proofs.Common.{arith}
use Rattle.std.proofs.lemmas.Grind.{common_steps}
use Rattle.meaning.specs.Lists.{all, any}
use Rattle.fault_kinds.proofs.linked.Goals as goal

pub returns-then-not-flag : goal.returns-then-not-flag
unfolding all any
returns-then-not-flag c = grind (arith, common_steps)

pub returns-else-not-flag : goal.returns-else-not-flag
unfolding all any
returns-else-not-flag c = grind (arith, common_steps)
