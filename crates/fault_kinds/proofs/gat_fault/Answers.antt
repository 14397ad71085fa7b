use Rattle.std.proofs.Common.{arith}
use Rattle.std.proofs.lemmas.Grind.{common_steps}
use Rattle.meaning.specs.Lists.{all, any}
use Rattle.lists.specs.Tests.{is-true}
use Rattle.meaning.specs.Fault.{gat_fault}
use Rattle.fault_kinds.proofs.Passes.{runs-lie}
use Rattle.fault_kinds.proofs.gat_fault.Goals as goal

pub gat_holds-requires : goal.gat_holds-requires
gat_holds-requires c = (c.requires.0, runs-lie _ _ _ (is-true c.flag.ensures c.if-flag.true) c.requires.1)

pub returns-then-flag : goal.returns-then-flag
unfolding gat_fault all any
returns-then-flag c = grind (arith, common_steps)

pub returns-else-flag : goal.returns-else-flag
unfolding gat_fault all any
returns-else-flag c = grind (arith, common_steps)
