use Rattle.check_walk.proofs.WalkSteps.{entering-start, entering-step, entering-bad, entering-astray, entering-stop, entering-end}
use Rattle.lists.specs.Tests.{is-false, is-true}
use native.Mathlib.Omega.{arith}
use Rattle.check_walk.proofs.take_runs.Goals as goal

pub loop-k-init : goal.loop-k-init
loop-k-init c = entering-start _ _ _ _ _

pub returns-then-not-no_runs : goal.returns-then-not-no_runs
returns-then-not-no_runs c = entering-astray _ _ _ c.loop-k.invariant c.loop-k-test.true c.field_at.ensures.is c.if-field_at-eq-ENDS.true
    (is-false c.no_runs.ensures c.if-not-no_runs.true)

pub returns-then-field_at-eq-ENDS : goal.returns-then-field_at-eq-ENDS
returns-then-field_at-eq-ENDS c = entering-stop _ _ _ c.loop-k.invariant c.loop-k-test.true c.field_at.ensures.is c.if-field_at-eq-ENDS.true
    (is-true c.no_runs.ensures c.if-not-no_runs.false)

pub returns-in-None : goal.returns-in-None
returns-in-None c = entering-bad _ _ _ c.loop-k.invariant c.loop-k-test.true c.field_at.ensures.is c.if-field_at-eq-ENDS.false c.in-None.ensures

pub overflow_add-n : goal.overflow_add-n
overflow_add-n c = omega (arith, c.loop-k.invariant.few, c.in-Some.ensures.taken.small)

pub loop-k-preserved : goal.loop-k-preserved
loop-k-preserved c = entering-step _ _ _ c.loop-k.invariant c.loop-k-test.true c.field_at.ensures.is c.if-field_at-eq-ENDS.false c.in-Some.ensures

pub returns : goal.returns
returns c = entering-end _ _ _ c.loop-k.invariant c.loop-k-test.false
