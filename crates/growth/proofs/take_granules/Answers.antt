use mathlib.Core.Path.{refl}
use Rattle.growth.proofs.Growing.{tail-slot}
use Rattle.growth.proofs.Longer.{turn-further}
use Rattle.growth.proofs.Turns.{turning-start, turn-shut, turn-picked, turn-asks, turn-pair, turn-new, turn-stuck, turn_end, at_last}
use Rattle.growth.proofs.Turns.{longer-fits, some_runs, new-places, at_new}
use Rattle.passed.proofs.Ready.{walks}
use native.Mathlib.Omega.{arith}
use Rattle.growth.proofs.take_granules.Goals as goal

pub invariant_of-last_run : goal.invariant_of-last_run
invariant_of-last_run c = record { room = (walks _ _ _ c.requires.0).0.room }

pub last_run-end-requires : goal.last_run-end-requires
last_run-end-requires c = tail-slot _ _ c.args.lowest c.requires.0 c.requires.1

pub loop-left-init : goal.loop-left-init
loop-left-init c = turning-start _ _ _ c.requires.0 c.requires.1 c.requires.2
    c.last_run-end.ensures

pub overflow_sub-runs : goal.overflow_sub-runs
overflow_sub-runs c = let q = c.further-m.ensures.short c.if-m-gt0.true in
    (some_runs _ _ _ c.loop-left.invariant (omega arith)).0

pub put_longer-requires : goal.put_longer-requires
put_longer-requires c = let f = c.further-m.ensures in let q = f.short c.if-m-gt0.true in
    let w = f.inside c.if-m-gt0.true in (
      c.loop-left.invariant.room,
      (at_last _ _ _ c.loop-left.invariant {n = c.loop-left.after} (omega arith)).entry,
      w,
      (some_runs _ _ _ c.loop-left.invariant (omega arith)).1,
      longer-fits _ _ _ c.loop-left.invariant c.if-m-gt0.true q,
    )

pub overflow_add-after : goal.overflow_add-after
overflow_add-after c = let b = c.loop-left.invariant.room.most in let q = c.further-m.ensures.inside c.if-m-gt0.true in omega arith

pub overflow_add-long : goal.overflow_add-long
overflow_add-long c = let q = c.further-m.ensures.short c.if-m-gt0.true in omega arith

pub overflow_sub-left : goal.overflow_sub-left
overflow_sub-left c = let q = c.further-m.ensures.few in omega arith

pub loop-left-smaller-then-m-gt0 : goal.loop-left-smaller-then-m-gt0
loop-left-smaller-then-m-gt0 c = let q = c.further-m.ensures.few in omega arith

pub loop-left-preserved-then-m-gt0 : goal.loop-left-preserved-then-m-gt0
loop-left-preserved-then-m-gt0 c = let q = c.further-m.ensures.short c.if-m-gt0.true in
    turn-further _ _ _ c.loop-left.invariant
    (some_runs _ _ _ c.loop-left.invariant (omega arith)).1
    c.if-m-gt0.true c.further-m.ensures c.put_longer.ensures

pub choose-c-requires : goal.choose-c-requires
choose-c-requires c = let loop-test = c.loop-left-test in let l = c.loop-left in turn-asks _ _ _ l.invariant loop-test.true

pub overflow_add-after-in-loop-left : goal.overflow_add-after-in-loop-left
overflow_add-after-in-loop-left c = let b = c.loop-left.invariant.room.most in let q = (turn-picked _ _ _ c.loop-left.invariant c.loop-left-test.true
    c.choose-c.ensures).inside in
    omega arith

pub put_pair-requires : goal.put_pair-requires
put_pair-requires c = let loop-test = c.loop-left-test in let l = c.loop-left in
    (at_last _ _ _ l.invariant (turn-picked _ _ _ l.invariant loop-test.true c.choose-c.ensures).inside, c.if-runs-lt-PAIRS.true)

pub loop-left-preserved-then-runs-lt-PAIRS : goal.loop-left-preserved-then-runs-lt-PAIRS
loop-left-preserved-then-runs-lt-PAIRS c = turn-pair _ _ _ c.loop-left.invariant
    c.loop-left-test.true
    (turn-shut _ _ _ c.loop-left.invariant
    (c.further-m.ensures.none
    c.loop-left-test.true
    (let z = c.if-m-gt0.false in omega arith))) c.if-runs-lt-PAIRS.true
    (turn-picked _ _ _ c.loop-left.invariant
    c.loop-left-test.true
    c.choose-c.ensures) c.put_pair.ensures

pub next_slot-requires : goal.next_slot-requires
next_slot-requires c = let l = c.loop-left in l.invariant.growing.slot-low

pub returns-in-None : goal.returns-in-None
returns-in-None c = turn-stuck _ _ _ c.loop-left.invariant
    c.loop-left-test.true
    c.requires.3
    (turn-shut _ _ _ c.loop-left.invariant
    (c.further-m.ensures.none
    c.loop-left-test.true
    (let z = c.if-m-gt0.false in omega arith))) c.if-runs-lt-PAIRS.false
    c.in-None.ensures refl

pub put_extension-requires : goal.put_extension-requires
put_extension-requires c = let l = c.loop-left in new-places _ _ _ l.invariant c.in-Some.ensures.0 (let z = c.in-Some.ensures.1 in λ q. omega (arith, q))

pub put_pair-requires-in-loop-left : goal.put_pair-requires-in-loop-left
put_pair-requires-in-loop-left c = (
  at_new _ _ _ c.loop-left.invariant
      c.in-Some.ensures.0 (let z = c.in-Some.ensures.1 in λ q. omega (arith, q))
      (turn-picked _ _ _ c.loop-left.invariant c.loop-left-test.true
      c.choose-c.ensures).inside
      c.put_extension.ensures,
  omega arith,
)

pub overflow_add-slot : goal.overflow_add-slot
overflow_add-slot c = let q = c.in-Some.ensures.1 in omega arith

pub loop-left-preserved : goal.loop-left-preserved
loop-left-preserved c = turn-new _ _ _
    c.loop-left.invariant c.loop-left-test.true
    (turn-shut _ _ _ c.loop-left.invariant (c.further-m.ensures.none c.loop-left-test.true (let z = c.if-m-gt0.false in omega arith))) c.if-runs-lt-PAIRS.false
    (turn-picked _ _ _ c.loop-left.invariant c.loop-left-test.true c.choose-c.ensures) c.in-Some.ensures.0
    (let z = c.in-Some.ensures.1 in λ q. omega (arith, q))
    c.put_extension.ensures c.put_pair-in-loop-left.ensures

pub shape_of-image : goal.shape_of-image
shape_of-image c = c.loop-left.invariant.same-long

pub returns : goal.returns
returns c = turn_end _ _ _ c.loop-left.invariant c.loop-left-test.false
