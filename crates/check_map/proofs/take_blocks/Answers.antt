use Rattle.check_map.proofs.Owners.{taking-start, taking-block, taking_step, taking-stop, taking-end}
use native.Mathlib.Omega.{arith}
use Rattle.check_map.proofs.take_blocks.Goals as goal

pub loop-u-init : goal.loop-u-init
loop-u-init c = taking-start _ _ _ _ _ c.requires.3 c.requires.0

pub overflow_add-u : goal.overflow_add-u
overflow_add-u c = let i = c.loop-u.invariant in let l = i.unit in let k = i.most in let p = c.requires in omega arith

pub overflow_sub-units : goal.overflow_sub-units
overflow_sub-units c = let l = c.loop-u.invariant.unit in omega arith

pub take_units-requires : goal.take_units-requires
take_units-requires c = let i = c.loop-u.invariant in let l = i.unit in let p = c.requires in (taking-block i p.2, omega arith, p.1, omega arith)

pub returns-then-not-take_units : goal.returns-then-not-take_units
returns-then-not-take_units c = taking-stop c.loop-u.invariant (let l = c.loop-u-test.true in omega arith)
    c.take_units.ensures c.if-not-take_units.true

pub overflow_sub-left : goal.overflow_sub-left
overflow_sub-left c = let l = c.loop-u.invariant.unit in omega arith

pub overflow_sub-left-in-loop-u : goal.overflow_sub-left-in-loop-u
overflow_sub-left-in-loop-u c = let l = c.loop-u.invariant.unit in let k = c.loop-u-test.true in omega arith

pub overflow_add-b : goal.overflow_add-b
overflow_add-b c = let b = taking-block c.loop-u.invariant c.requires.2 in omega arith

pub loop-u-smaller : goal.loop-u-smaller
loop-u-smaller c = let l = c.loop-u.invariant.unit in let k = c.loop-u-test.true in omega arith

pub loop-u-preserved : goal.loop-u-preserved
loop-u-preserved c = let loop-test = c.loop-u-test in let l = c.loop-u in taking_step l.invariant loop-test.true c.take_units.ensures c.if-not-take_units.false

pub take_units-requires-2 : goal.take_units-requires-2
take_units-requires-2 c = let i = c.loop-u.invariant in let l = i.unit in let k = c.loop-u-test.false in let p = c.requires in
    (taking-block i p.2, omega arith, p.1, i.some)

pub returns : goal.returns
returns c = taking-end c.loop-u.invariant c.take_units-2.ensures
