use Rattle.compare_order.proofs.Moving.{carrying-start, carrying-on, carrying-end}
use native.Mathlib.Omega.{arith}
use Rattle.compare_order.proofs.put_at.Goals as goal

pub loop-k-init : goal.loop-k-init
loop-k-init c = carrying-start _ _ _ _ c.requires.0

pub bounds-order-k : goal.bounds-order-k
bounds-order-k c = let p = c.requires in omega (arith, p.1, c.loop-k.invariant.long, c.loop-k-test.true)

pub bounds-order-k-in-loop-k : goal.bounds-order-k-in-loop-k
bounds-order-k-in-loop-k c = let p = c.requires in omega (arith, p.1, c.loop-k.invariant.long, c.loop-k-test.true)

pub loop-k-preserved : goal.loop-k-preserved
loop-k-preserved c = let p = c.requires in carrying-on _ _ _ _ _ _ _ c.loop-k.invariant (omega (arith, p.1, c.loop-k.invariant.long, c.loop-k-test.true))
    c.loop-k-test.true

pub bounds-order-n : goal.bounds-order-n
bounds-order-n c = omega (arith, c.requires.1, c.loop-k.invariant.long)

pub shape_of-order : goal.shape_of-order
shape_of-order c = (carrying-end _ _ _ _ _ _ _ c.loop-k.invariant
    (omega (arith, c.requires.1, c.loop-k.invariant.long, c.loop-k.invariant.low)) c.loop-k-test.false).long

pub returns : goal.returns
returns c = carrying-end _ _ _ _ _ _ _ c.loop-k.invariant
    (omega (arith, c.requires.1, c.loop-k.invariant.long, c.loop-k.invariant.low)) c.loop-k-test.false
