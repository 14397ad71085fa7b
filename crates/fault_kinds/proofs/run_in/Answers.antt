use Rattle.std.proofs.Common.{arith}
use Rattle.std.proofs.lemmas.Grind.{common_steps}
use Rattle.meaning.specs.Lists.{all, any}
use Rattle.fault_kinds.specs.Tests.{run_in}
use Rattle.fault_kinds.proofs.run_in.Goals as goal

pub returns-then-a-b : goal.returns-then-a-b
unfolding run_in all any
returns-then-a-b c = grind (arith, common_steps)

pub returns-else-a-b : goal.returns-else-a-b
unfolding run_in all any
returns-else-a-b c = grind (arith, common_steps)
