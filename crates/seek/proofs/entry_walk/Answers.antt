use Rattle.seek.proofs.SeekSteps.{walking_here, walking-stop, walking-step, walking-end}
use native.Mathlib.Omega.{arith}
use Rattle.seek.proofs.entry_walk.Goals as goal

pub returns-in-Ok : goal.returns-in-Ok
returns-in-Ok c =
    let e = c.in-Ok.ensures in let w = c.loop.invariant.low in (walking_here _ _ c.loop.invariant c.loop-test.true e, omega (arith, e.2))

pub returns-then-field-ne-HANDS_ON : goal.returns-then-field-ne-HANDS_ON
returns-then-field-ne-HANDS_ON c = (
  walking-stop _ _ c.loop.invariant c.loop-test.true c.in-Err.ensures c.field.ensures.is c.if-field-ne-HANDS_ON.true,
  omega arith,
)

pub loop-preserved : goal.loop-preserved
loop-preserved c = walking-step _ _ c.requires.0 c.loop.invariant c.loop-test.true c.in-Err.ensures c.field.ensures.is c.if-field-ne-HANDS_ON.false
    c.field-at.ensures.is

pub returns : goal.returns
returns c = (walking-end _ _ c.loop.invariant c.loop-test.false, omega arith)
