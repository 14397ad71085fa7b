use Rattle.fault_clear.proofs.Passes.{clearing-start}
use native.Mathlib.Omega.{arith}
use mathlib.Core.Path.{◌≡◌}
use Rattle.fault_clear.proofs.runs_clear.Goals as goal

pub loop-s-init : goal.loop-s-init
loop-s-init c = clearing-start _ _ c.gat_map.ensures

pub taken_off-requires : goal.taken_off-requires
taken_off-requires c = (c.loop-s.invariant)

pub returns-then-not-taken_off : goal.returns-then-not-taken_off
returns-then-not-taken_off c = c.loop-s.invariant.clear

pub loop-s-preserved : goal.loop-s-preserved
loop-s-preserved c = c.taken_off.ensures c.if-not-taken_off.false

pub returns : goal.returns
returns c = let e : c.loop-s.s ≡ 256 = omega arith in rw e at c.loop-s.invariant.clear
