use Rattle.fault_kinds.proofs.Noting.{leading_end}
use Rattle.fault_kinds.proofs.note_goods.Goals as goal

pub loop-b-init : goal.loop-b-init
loop-b-init c = c.requires.1

pub loop-b-preserved : goal.loop-b-preserved
loop-b-preserved c = c.tell_from.ensures

pub returns : goal.returns
returns c = leading_end _ _ _ c.loop-b-test.false c.loop-b.invariant
