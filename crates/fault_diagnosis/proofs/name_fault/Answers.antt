use Rattle.std.proofs.Common.{arith}
use Rattle.std.proofs.lemmas.Grind.{common_steps}
use Rattle.meaning.specs.Lists.{all, any}
use Rattle.meaning.specs.Fault.{name_fault}
use Rattle.fault_diagnosis.proofs.name_fault.Goals as goal

pub returns-then-primary : goal.returns-then-primary
unfolding name_fault all any
returns-then-primary c = grind (arith, common_steps)

pub returns-else-primary : goal.returns-else-primary
unfolding name_fault all any
returns-else-primary c = grind (arith, common_steps)
