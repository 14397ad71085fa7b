use mathlib.Core.Path.{◌≡◌}
use Rattle.fault_kinds.proofs.Noting.{noting-stop, noting-on, noting-none}
use Rattle.fault_kinds.proofs.Passes.{one-less, hands-slot}
use Rattle.lists.specs.Tests.{is-false, is-true}
use native.Mathlib.Omega.{arith}
use Prim.Native.Nat.{◌-◌, ◌+◌}
use mathlib.Core.Path.{refl}
use Rattle.fault_kinds.proofs.note_walk.Goals as goal

pub loop-init : goal.loop-init
loop-init c = (let e : c.args.n - 0 ≡ c.args.n = omega arith in rw e refl, c.requires)

pub note-requires : goal.note-requires
note-requires c = let a = c.loop.invariant.1.low in let b = c.requires.held in let e = c.args.disk.now.room.thirty in let l = c.requires.low in
    (omega arith, omega arith)

pub returns-then-not-hands_on : goal.returns-then-not-hands_on
returns-then-not-hands_on c = let a = c.args in noting-stop a.disk.now.g a.disk.now.image.now a.n a.p (c.args.n - c.loop.counter)
    c.loop.s (a.p + 1) a.files.now c.loop.files
    c.loop.invariant.0 c.note.ensures (omega arith)
    (is-false c.hands_on.ensures c.if-not-hands_on.true)

pub loop-preserved : goal.loop-preserved
loop-preserved c = let a = c.args in (
  rw (← one-less c.args.n c.loop.counter) (noting-on a.disk.now.g a.disk.now.image.now a.n a.p (c.args.n - c.loop.counter)
      c.loop.s (a.p + 1) a.files.now
      c.loop.files
      c.loop.invariant.0 c.note.ensures
      (omega arith) (is-true c.hands_on.ensures c.if-not-hands_on.false)
      c.field-s.ensures.is),
  hands-slot _ _ _ (is-true c.hands_on.ensures c.if-not-hands_on.false) c.field-s.ensures.is,
)

pub returns : goal.returns
returns c = let a = c.args in noting-none a.disk.now.g a.disk.now.image.now a.n a.p (c.args.n - c.loop.counter) c.loop.s (a.p + 1) a.files.now c.loop.files
    c.loop.invariant.0 (omega arith)
