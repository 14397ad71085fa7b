use Rattle.fault_diagnosis.proofs.duplicate_fault.Goals.{then-clear-p, else-clear-p}
use Rattle.lists.specs.Tests.{all-no}
use Rattle.std.proofs.Common.{arith, ◌∙◌, sym}
use Rattle.std.proofs.lemmas.Grind.{common_steps}
use Rattle.meaning.specs.Lists.{all, any}
use Rattle.lists.specs.Tests.{is-false}
use Rattle.meaning.specs.Fault.{duplicate_fault}
use Rattle.fault_diagnosis.proofs.AllSlots.{below-is}
use Rattle.fault_diagnosis.proofs.duplicate_fault.Goals as goal

pub returns-then-primary : goal.returns-then-primary
unfolding duplicate_fault all any
returns-then-primary c = let a = c.args in grind (arith, common_steps, below-is a.disk.now.g a.disk.now.image.now a.p c.requires.0.low)

pub returns-else-primary : goal.returns-else-primary
unfolding duplicate_fault
returns-else-primary c = elim c.if-clear-p.branch [
  | then-clear-p w ↦ c.if-primary.false ∙ sym (all-no (is-false w.primary.ensures (sym w.value-is ∙ c.if-primary.false)) _)
  | else-clear-p w ↦ c.if-primary.false ∙ sym (c.requires.1.name c.args.p (omega arith) c.requires.0)
]
