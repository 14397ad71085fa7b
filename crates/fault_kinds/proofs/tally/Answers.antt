use Rattle.std.proofs.Common.{arith}
use Rattle.std.proofs.lemmas.Grind.{common_steps}
use Rattle.meaning.specs.Lists.{all, any}
use Rattle.fault_kinds.specs.Tests.{tally}
use Rattle.fault_kinds.proofs.tally.Goals as goal

pub returns-then-follows : goal.returns-then-follows
unfolding tally all any
returns-then-follows c = grind (arith, common_steps)

pub returns-else-follows : goal.returns-else-follows
unfolding tally all any
returns-else-follows c = grind (arith, common_steps)
