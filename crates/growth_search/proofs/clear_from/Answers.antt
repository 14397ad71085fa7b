use Rattle.growth_search.proofs.ClearFrom.{counting-start, counting-stop, counting-step, counting-end}
use Rattle.space.proofs.Blocks.{cut_low, cut_inside}
use native.Mathlib.Omega.{arith}
use Rattle.growth_search.proofs.clear_from.Goals as goal

pub nonzero_div-b : goal.nonzero_div-b
nonzero_div-b c = let r = c.args.disk.now.room.units-low in omega arith

pub nonzero_rem-u : goal.nonzero_rem-u
nonzero_rem-u c = let r = c.args.disk.now.room.units-low in omega arith

pub loop-u-init : goal.loop-u-init
loop-u-init c = counting-start _ _ _ _ c.args.disk.now.room.units-low

pub overflow_add-u : goal.overflow_add-u
overflow_add-u c = let m = c.loop-u.invariant.cut.unit in let f = c.loop-u.invariant.cut.few in let h = c.args.disk.now.room.units-high in
    let k = c.args.disk.now.room.most in omega arith

pub overflow_sub-disk : goal.overflow_sub-disk
overflow_sub-disk c = let m = c.loop-u.invariant.cut.unit in omega arith

pub units_clear-m-requires : goal.units_clear-m-requires
units_clear-m-requires c = let m = c.loop-u.invariant.cut.unit in (
  cut_inside _ c.args.disk.now.room c.requires
      c.loop-u.invariant.cut,
  omega arith,
)

pub overflow_sub-disk-in-loop-u : goal.overflow_sub-disk-in-loop-u
overflow_sub-disk-in-loop-u c = let m = c.loop-u.invariant.cut.unit in omega arith

pub overflow_sub-result : goal.overflow_sub-result
overflow_sub-result c = let m = c.loop-u.invariant.cut.few in omega arith

pub overflow_add-result : goal.overflow_add-result
overflow_add-result c = let m = c.loop-u.invariant.cut.few in let q = c.units_clear-m.ensures.few in let k = c.args.disk.now.room.most in
    let h = c.args.disk.now.room.units-high in omega arith

pub returns-then-m-disk : goal.returns-then-m-disk
returns-then-m-disk c = let if1 = c.loop-u-test in let l = c.loop-u in counting-stop _ _ l.invariant if1.true c.units_clear-m.ensures c.if-m-disk.true

pub overflow_sub-left : goal.overflow_sub-left
overflow_sub-left c = let m = c.loop-u.invariant.cut.unit in omega arith

pub overflow_sub-left-in-loop-u : goal.overflow_sub-left-in-loop-u
overflow_sub-left-in-loop-u c = let m = c.loop-u.invariant.cut.unit in omega arith

pub overflow_add-b : goal.overflow_add-b
overflow_add-b c = let l = cut_low _ c.args.disk.now.room
    c.requires
    c.loop-u.invariant.cut in
    omega arith

pub loop-u-smaller : goal.loop-u-smaller
loop-u-smaller c = let m = c.loop-u.invariant.cut.unit in omega arith

pub loop-u-preserved : goal.loop-u-preserved
loop-u-preserved c = let units-clear = c.units_clear-m in let if1 = c.loop-u-test in let l = c.loop-u in
    counting-step _ _ l.invariant if1.true units-clear.ensures c.if-m-disk.false

pub overflow_sub-result-2 : goal.overflow_sub-result-2
overflow_sub-result-2 c = let m = c.loop-u.invariant.cut.few in omega arith

pub units_clear-requires : goal.units_clear-requires
units_clear-requires c = (
  cut_inside _ c.args.disk.now.room
      c.requires c.loop-u.invariant.cut,
  omega arith,
)

pub overflow_add-result-2 : goal.overflow_add-result-2
overflow_add-result-2 c = let m = c.loop-u.invariant.cut.few in let q = c.units_clear.ensures.few in let k = c.args.disk.now.room.most in omega arith

pub returns : goal.returns
returns c = counting-end _ _ c.loop-u.invariant c.units_clear.ensures
