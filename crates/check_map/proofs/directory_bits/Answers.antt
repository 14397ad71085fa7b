use Rattle.check_map.proofs.Window.{spans-from, spot-lt, window-start, window-step, window-end}
use native.Mathlib.Omega.{arith}
use Rattle.check_map.proofs.directory_bits.Goals as goal

pub loop-k-init : goal.loop-k-init
loop-k-init c = (window-start c.args.units c.args.a c.args.at, omega arith, omega arith)

pub overflow_add-k-end : goal.overflow_add-k-end
overflow_add-k-end c = let u = c.requires.1 in let z = c.requires.3 in omega arith

pub overflow_sub-bits : goal.overflow_sub-bits
overflow_sub-bits c = spans-from {k = c.loop-k.k} c.requires.4 c.requires.0 c.loop-k.invariant.1

pub overflow_mul-bits : goal.overflow_mul-bits
overflow_mul-bits c = let z = spot-lt {k = c.loop-k.k} c.requires.4 c.requires.0 c.requires.1
    c.loop-k-test.true in
    omega arith

pub overflow_add-bits : goal.overflow_add-bits
overflow_add-bits c = let z = spot-lt {k = c.loop-k.k} c.requires.4 c.requires.0 c.requires.1
    c.loop-k-test.true in
    omega arith

pub overflow_shl-bits : goal.overflow_shl-bits
overflow_shl-bits c = let q = spot-lt {k = c.loop-k.k} c.requires.4 c.requires.0 c.requires.1
    c.loop-k-test.true in
    omega arith

pub loop-k-preserved : goal.loop-k-preserved
loop-k-preserved c = let t = c.loop-k-test.true in (
  window-step c.args.units c.args.a c.args.at c.loop-k.k c.loop-k.bits
      c.loop-k.invariant.1
      (spot-lt {k = c.loop-k.k} c.requires.4 c.requires.0 c.requires.1 c.loop-k-test.true)
      c.loop-k.invariant.0,
  let z = c.loop-k.invariant.1 in omega arith,
  omega arith,
)

pub returns : goal.returns
returns c = window-end c.loop-k.invariant.1 c.loop-k.invariant.2 c.loop-k-test.false c.loop-k.invariant.0
