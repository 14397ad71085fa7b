use Rattle.check_met.proofs.SlotMap.{rowing_start, rowing-step, rowing-stop, rowing-end}
use native.Mathlib.Omega.{arith}
use Rattle.check_met.proofs.row_met.Goals as goal

pub loop-at-init : goal.loop-at-init
loop-at-init c = rowing_start _ _ _ (omega arith)

pub overflow_add-at : goal.overflow_add-at
overflow_add-at c = omega arith

pub returns-then-eight-ne0 : goal.returns-then-eight-ne0
returns-then-eight-ne0 c = rowing-stop c.loop-at.invariant (omega arith) (omega arith) c.eight.ensures.is c.if-eight-ne0.true

pub overflow_add-at-in-loop-at : goal.overflow_add-at-in-loop-at
overflow_add-at-in-loop-at c = omega arith

pub loop-at-smaller : goal.loop-at-smaller
loop-at-smaller c = omega arith

pub loop-at-preserved : goal.loop-at-preserved
loop-at-preserved c = rowing-step c.loop-at.invariant (omega arith) (omega arith) c.eight.ensures.is c.if-eight-ne0.false

pub overflow_sub-end : goal.overflow_sub-end
overflow_sub-end c = omega arith

pub returns : goal.returns
returns c = rowing-end c.loop-at.invariant c.loop-at-test.false (omega arith) (omega arith) c.eight-2.ensures.is
