use Rattle.std.proofs.Common.{arith}
use Rattle.std.proofs.lemmas.Grind.{common_steps}
use Rattle.meaning.specs.Lists.{all, any}
use Rattle.meaning.specs.Fault.{run_fault}
use Rattle.fault_kinds.proofs.run_fault.Goals as goal

pub returns-then-flag : goal.returns-then-flag
unfolding run_fault all any
returns-then-flag c = grind (arith, common_steps)

pub returns-else-flag : goal.returns-else-flag
unfolding run_fault all any
returns-else-flag c = grind (arith, common_steps)
