use Rattle.extent.proofs.Measuring.{measuring-start, measuring-step, measuring-stop, measuring-end}
use native.Mathlib.Omega.{arith}
use Rattle.extent.proofs.measure.Goals as goal

pub loop-init : goal.loop-init
loop-init c = measuring-start _ _ _ c.requires.1

pub returns-then-field-ne-HANDS_ON : goal.returns-then-field-ne-HANDS_ON
returns-then-field-ne-HANDS_ON c = measuring-stop _ _ c.requires.0 c.loop.invariant (omega arith) c.entry_length-owned.ensures c.field.ensures.is
    c.if-field-ne-HANDS_ON.true

pub loop-preserved : goal.loop-preserved
loop-preserved c = measuring-step _ _ c.requires.0 c.loop.invariant (omega arith) c.entry_length-owned.ensures c.field.ensures.is
    c.if-field-ne-HANDS_ON.false c.field-at.ensures.is

pub returns : goal.returns
returns c = measuring-end _ _ c.requires.0 c.loop.invariant (omega arith)
