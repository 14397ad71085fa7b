use Rattle.std.proofs.Common.{arith}
use Rattle.std.proofs.lemmas.Grind.{common_steps}
use Rattle.meaning.specs.Lists.{all, any}
use Rattle.meaning.specs.Fault.{chain_fault}
use Rattle.fault_kinds.proofs.chain_fault.Goals as goal

pub returns-then-bad_entry : goal.returns-then-bad_entry
unfolding chain_fault all any
returns-then-bad_entry c = grind (arith, common_steps)

pub returns-else-bad_entry : goal.returns-else-bad_entry
unfolding chain_fault all any
returns-else-bad_entry c = grind (arith, common_steps)

pub returns-else-flag : goal.returns-else-flag
unfolding chain_fault all any
returns-else-flag c = grind (arith, common_steps)
