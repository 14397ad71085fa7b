use mathlib.Core.Path.{◌≡◌}
use Prim.Native.Nat.{◌-◌}
use Rattle.fault_kinds.proofs.Passes.{one-less, so, not_so, whole-no, whole-end, whole-on, whole-none, hands-slot}
use Rattle.lists.specs.Tests.{is-false, is-true}
use native.Mathlib.Omega.{arith}
use mathlib.Core.Path.{refl}
use Rattle.fault_kinds.proofs.whole_from.Goals as goal

pub loop-init : goal.loop-init
loop-init c = (let e : c.args.n - 0 ≡ c.args.n = omega arith in rw e refl, c.requires.0)

pub returns-then-chain_fault : goal.returns-then-chain_fault
returns-then-chain_fault c = whole-no _ _ _ _ _ _ c.loop.invariant.0 (omega arith)
    (so c.chain_fault.ensures c.if-chain_fault.true)

pub returns-then-not-hands_on : goal.returns-then-not-hands_on
returns-then-not-hands_on c = let chain-fault = c.chain_fault in let l = c.loop in
    whole-end _ _ _ _ _ _ l.invariant.0 (omega arith) (not_so chain-fault.ensures c.if-chain_fault.false)
    (is-false c.hands_on.ensures c.if-not-hands_on.true)

pub loop-preserved : goal.loop-preserved
loop-preserved c = let if1 = c.if-chain_fault in let chain-fault = c.chain_fault in let l = c.loop in (
  rw (← one-less c.args.n c.loop.counter) (whole-on _ _ _ _ _ _ l.invariant.0 (omega arith) (not_so chain-fault.ensures if1.false)
      (is-true c.hands_on.ensures c.if-not-hands_on.false) c.field-s.ensures.is),
  hands-slot _ _ _
      (is-true c.hands_on.ensures c.if-not-hands_on.false) c.field-s.ensures.is,
)

pub returns : goal.returns
returns c = whole-none _ _ _ _ _ _ c.loop.invariant.0 (omega arith)
