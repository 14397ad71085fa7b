use Rattle.load_record.proofs.Passing.{comment-whole, passing-start, passing_step, passing-end, told-whole}
use Rattle.load_record.proofs.Bytes.{long}
use native.Mathlib.Omega.{arith}
use Rattle.load_record.proofs.next_record.Goals as goal

pub loop-x-init : goal.loop-x-init
loop-x-init c = (c.requires.1, c.item-x.ensures, passing-start _ _)

pub overflow_add-p : goal.overflow_add-p
overflow_add-p c = omega (arith, c.loop-x.invariant.0)

pub overflow_add-p-in-loop-x : goal.overflow_add-p-in-loop-x
overflow_add-p-in-loop-x c = omega (arith, c.loop-x.invariant.0, c.loop-x.invariant.1.few)

pub item-x-requires-in-loop-x : goal.item-x-requires-in-loop-x
item-x-requires-in-loop-x c = let w = comment-whole _ c.loop-x.invariant.1 c.loop-x-test.true in
    let e = long _ _ _ c.requires.0 in
    let h = c.requires.0.high in (c.requires.0, omega (arith, w, e, h))

pub loop-x-smaller : goal.loop-x-smaller
loop-x-smaller c = let w = comment-whole _ c.loop-x.invariant.1 c.loop-x-test.true in
    let e = long _ _ _ c.requires.0 in omega (arith, w, e)

pub loop-x-preserved : goal.loop-x-preserved
loop-x-preserved c = let w = comment-whole _ c.loop-x.invariant.1 c.loop-x-test.true in
    let e = long _ _ _ c.requires.0 in
    let h = c.requires.0.high in (
      omega (arith, w, e, h),
      c.item-x-in-loop-x.ensures,
      passing_step _ _ (omega arith) c.loop-x.invariant.2
          c.loop-x.invariant.1 c.loop-x-test.true,
    )

pub told-requires : goal.told-requires
told-requires c = let p = c.requires in (p.0, c.loop-x.invariant.0, c.loop-x.invariant.1, c.loop-x-test.false)

pub returns : goal.returns
returns c = told-whole _ _ (passing-end _ _ c.loop-x.invariant.2 c.loop-x.invariant.1 c.loop-x-test.false)
    c.told.ensures
