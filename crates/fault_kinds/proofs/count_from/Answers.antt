use mathlib.Core.Path.{◌≡◌}
use Prim.Native.Nat.{◌-◌}
use Rattle.fault_kinds.proofs.Passes.{one-less, count-end, count-on, count-none', hands-slot}
use Rattle.lists.specs.Tests.{is-false, is-true}
use native.Mathlib.Nat.{zero-add}
use native.Mathlib.Omega.{arith}
use mathlib.Core.Path.{sym}
use Rattle.fault_kinds.proofs.count_from.Goals as goal

pub loop-init : goal.loop-init
loop-init c = (let e : c.args.n - 0 ≡ c.args.n = omega arith in rw e (sym (zero-add _)), c.requires.0, let h = c.requires.1 in omega arith)

pub overflow_add-c : goal.overflow_add-c
overflow_add-c c = let q = c.entry_length-c.ensures.small in let z = c.loop.invariant.2 in omega arith

pub returns-then-not-hands_on : goal.returns-then-not-hands_on
returns-then-not-hands_on c = record {
  is = count-end _ _ _ _ _ _ _ c.loop.invariant.0 (omega arith)
      c.entry_length-c.ensures.is (is-false c.hands_on.ensures c.if-not-hands_on.true);
  small = let q = c.entry_length-c.ensures.small in let z = c.loop.invariant.2 in omega arith;
}

pub loop-preserved : goal.loop-preserved
loop-preserved c = (
  rw (← one-less c.args.n c.loop.counter) (count-on _ _ _ _ _ _ _ c.loop.invariant.0 (omega arith)
      c.entry_length-c.ensures.is (is-true c.hands_on.ensures c.if-not-hands_on.false) c.field-s.ensures.is),
  hands-slot _ _ _ (is-true c.hands_on.ensures c.if-not-hands_on.false) c.field-s.ensures.is,
  let q = c.entry_length-c.ensures.small in let z = c.loop.invariant.2 in omega arith,
)

pub returns : goal.returns
returns c = record { is = count-none' _ _ _ _ _ _ _ c.loop.invariant.0 (omega arith); small = let z = c.loop.invariant.2 in omega arith }
