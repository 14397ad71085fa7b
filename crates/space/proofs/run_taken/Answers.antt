use Rattle.space.proofs.Looks.{looking-hit, looking-step}
use Rattle.space.proofs.Blocks.{cut_low, cut_inside}
use native.Mathlib.Omega.{arith}
use Rattle.space.proofs.run_taken.Goals as goal

pub units_taken-requires : goal.units_taken-requires
units_taken-requires c = let m = c.loop-u.invariant.cut.unit in (
  cut_inside _ c.args.disk.now.room c.requires
      c.loop-u.invariant.cut,
  omega arith,
)

pub returns-then-units_taken : goal.returns-then-units_taken
returns-then-units_taken c = let if1 = c.loop-u-test in let l = c.loop-u in
    looking-hit _ _ l.invariant if1.true c.units_taken.ensures c.if-units_taken.true

pub overflow_add-b : goal.overflow_add-b
overflow_add-b c = let l = cut_low _ c.args.disk.now.room
    c.requires
    c.loop-u.invariant.cut in
    omega arith

pub loop-u-preserved : goal.loop-u-preserved
loop-u-preserved c = let if1 = c.loop-u-test in let l = c.loop-u in looking-step _ _ l.invariant if1.true c.units_taken.ensures c.if-units_taken.false

pub units_taken-requires-2 : goal.units_taken-requires-2
units_taken-requires-2 c = (
  cut_inside _ c.args.disk.now.room
      c.requires c.loop-u.invariant.cut,
  omega arith,
)
