use Rattle.std.proofs.Common.{arith}
use Rattle.std.proofs.lemmas.Grind.{common_steps}
use Rattle.meaning.specs.Lists.{all, any}
use Rattle.fault_kinds.proofs.run_holds.Goals as goal

pub returns-then-field-disk : goal.returns-then-field-disk
unfolding all any
returns-then-field-disk c = grind (arith, common_steps)

pub returns-else-field-disk : goal.returns-else-field-disk
unfolding all any
returns-else-field-disk c = grind (arith, common_steps)
