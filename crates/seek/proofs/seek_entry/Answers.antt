use Rattle.seek.proofs.SeekSteps.{pairs_start, pairs-stop, pairs-step, pairs_end, seeking-start, seeking-here, seeking-past}
use Rattle.seek.proofs.SeekSteps.{seeking-end}
use native.Mathlib.Omega.{arith}
use Rattle.seek.proofs.seek_entry.Goals as goal

pub loop-j-init : goal.loop-j-init
loop-j-init c = (omega arith, pairs_start _ _ _, seeking-start _ _ _ _)

pub returns-then-field-eq-ENDS : goal.returns-then-field-eq-ENDS
returns-then-field-eq-ENDS c = seeking-end _ _ c.loop-j.invariant.2
    (pairs-stop _ _ c.loop-j.invariant.1 c.loop-j-test.true c.field.ensures.is c.if-field-eq-ENDS.true)

pub returns-then-left-len : goal.returns-then-left-len
returns-then-left-len c =
    let p = seeking-here _ _ c.loop-j.invariant.2
    (pairs-step _ _ c.loop-j.invariant.1 c.loop-j-test.true
    c.field.ensures.is c.if-field-eq-ENDS.false).1 c.run_length-len.ensures.is
    c.if-left-len.true c.run_start.ensures.is in (p.0, p.1, omega arith)

pub loop-j-preserved : goal.loop-j-preserved
loop-j-preserved c = let p = pairs-step _ _ c.loop-j.invariant.1 c.loop-j-test.true
    c.field.ensures.is c.if-field-eq-ENDS.false in (
      omega arith,
      p.0,
      seeking-past _ _ c.loop-j.invariant.2 p.1 c.run_length-len.ensures.is
          c.if-left-len.false,
    )

pub returns : goal.returns
returns c = seeking-end _ _ c.loop-j.invariant.2 (pairs_end _ _ c.loop-j.invariant.1 c.loop-j-test.false)
