use Rattle.std.proofs.Common.{arith}
use Rattle.std.proofs.lemmas.Grind.{common_steps}
use Rattle.meaning.specs.Lists.{all, any}
use Rattle.meaning.specs.Fault.{hit_fault}
use Rattle.fault_diagnosis.proofs.hit_fault.Goals as goal

pub returns-then-not-hit_holds : goal.returns-then-not-hit_holds
unfolding hit_fault all any
returns-then-not-hit_holds c = grind (arith, common_steps)

pub returns-then-linked : goal.returns-then-linked
unfolding hit_fault all any
returns-then-linked c = grind (arith, common_steps)

pub returns-else-linked : goal.returns-else-linked
unfolding hit_fault all any
returns-else-linked c = grind (arith, common_steps)
