use Rattle.std.proofs.Common.{arith}
use Rattle.std.proofs.lemmas.Grind.{common_steps}
use Rattle.meaning.specs.Lists.{all, any}
use Rattle.meaning.specs.Fault.{bad_entry}
use Rattle.fault_kinds.proofs.bad_entry.Goals as goal

pub returns-then-not-ends : goal.returns-then-not-ends
unfolding bad_entry all any
returns-then-not-ends c = grind (arith, common_steps)

pub returns-else-not-ends : goal.returns-else-not-ends
unfolding bad_entry all any
returns-else-not-ends c = grind (arith, common_steps)
