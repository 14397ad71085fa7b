use Rattle.space.proofs.Marks.{marking-inside, marking_step, marking-long}
use Rattle.space.proofs.Blocks.{cut_low}
use native.Mathlib.Omega.{arith}
use Rattle.space.proofs.mark_run.Goals as goal

pub mark_units-requires : goal.mark_units-requires
mark_units-requires c = let m = c.loop-u.invariant.cut.unit in (
  marking-inside _ _ c.requires.0
      c.requires.1 c.loop-u.invariant,
  omega arith,
  c.requires.0.units-high,
)

pub overflow_add-b : goal.overflow_add-b
overflow_add-b c = let l = cut_low _ c.requires.0
    c.requires.1
    c.loop-u.invariant.cut in
    omega arith

pub loop-u-preserved : goal.loop-u-preserved
loop-u-preserved c = let mark-units = c.mark_units in let if1 = c.loop-u-test in let l = c.loop-u in
    marking_step _ _ l.invariant if1.true mark-units.ensures

pub mark_units-requires-2 : goal.mark_units-requires-2
mark_units-requires-2 c = (
  marking-inside _ _ c.requires.0
      c.requires.1 c.loop-u.invariant,
  omega arith,
  c.requires.0.units-high,
)

pub shape_of-image : goal.shape_of-image
shape_of-image c = let l = c.loop-u in marking-long _ _ l.invariant c.mark_units-2.ensures
