use Rattle.std.proofs.Common.{arith}
use Rattle.std.proofs.lemmas.Grind.{common_steps}
use Rattle.meaning.specs.Lists.{all, any}
use Rattle.meaning.specs.Fault.{ends}
use Rattle.fault_kinds.proofs.ends.Goals as goal

pub returns-then-field-eq-ENDS : goal.returns-then-field-eq-ENDS
unfolding ends all any
returns-then-field-eq-ENDS c = grind (arith, common_steps)

pub returns-else-field-eq-ENDS : goal.returns-else-field-eq-ENDS
unfolding ends all any
returns-else-field-eq-ENDS c = grind (arith, common_steps)
