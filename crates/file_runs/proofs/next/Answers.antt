use Rattle.file_runs.proofs.Steps.{past-some, past-marker, past-on, next-run}
use native.Mathlib.Omega.{arith}
use Rattle.file_runs.proofs.next.Goals as goal

pub overflow_sub-left : goal.overflow_sub-left
overflow_sub-left c = omega (arith, past-some _ _ c.loop-pair.invariant c.requires.2)

pub loop-pair-smaller : goal.loop-pair-smaller
loop-pair-smaller c = omega (arith, past-some _ _ c.loop-pair.invariant c.requires.2)

pub loop-pair-preserved : goal.loop-pair-preserved
loop-pair-preserved c =
    let i = c.loop-pair.invariant in let p = c.requires in let t = c.loop-pair-test.true in let e = c.runs.ensures.is in
    past-on _ _ p.0 i (past-some _ _ i p.2) (omega arith) (past-marker _ _ i p.2 (omega arith)) c.field-slot.ensures.is

pub returns : goal.returns
returns c =
    let i = c.loop-pair.invariant in let p = c.requires in let t = c.loop-pair-test.false in let r = c.runs.ensures in let e = r.is in let l = r.small in
    next-run _ _ p.0 i (past-some _ _ i p.2) (omega arith) (omega arith) c.granule_bytes-w.ensures.is c.run_length.ensures.is c.run_start.ensures.is
