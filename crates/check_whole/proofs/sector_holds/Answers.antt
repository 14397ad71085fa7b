use mathlib.Core.List.{[], ◌∷◌}
use Rattle.check_whole.proofs.SlotBySlot.{seeing-start, seeing-as, seeing-step, seeing-stop, seeing-end, column-are, column-more}
use Rattle.check_whole.proofs.SlotBySlot.{column-none, next_row, same-column}
use native.Mathlib.Omega.{arith}
use Rattle.check_whole.proofs.sector_holds.Goals as goal

pub loop-s-init : goal.loop-s-init
loop-s-init c = (seeing-start _ _ _ _ (column-are (omega arith)), omega arith, omega arith)

pub slot_holds-requires : goal.slot_holds-requires
slot_holds-requires c = (
  record
      { slot = record { low = omega arith; held = omega arith }; is = omega arith },
  c.requires.1,
)

pub returns-then-not-slot_holds : goal.returns-then-not-slot_holds
returns-then-not-slot_holds c = let loop-test = c.loop-s-test in let l = c.loop-s in
    seeing-stop _ _ (l.s ∷ []) _ (seeing-as _ _ l.invariant.0 (column-more loop-test.true)) c.slot_holds.ensures c.if-not-slot_holds.true

pub overflow_add-at : goal.overflow_add-at
overflow_add-at c = omega arith

pub overflow_add-s : goal.overflow_add-s
overflow_add-s c = omega arith

pub loop-s-smaller : goal.loop-s-smaller
loop-s-smaller c = omega arith

pub loop-s-preserved : goal.loop-s-preserved
loop-s-preserved c = (
  seeing-step _ _ (c.loop-s.s ∷ []) _
      (seeing-as _ _ c.loop-s.invariant.0 (column-more c.loop-s-test.true))
      c.slot_holds.ensures c.if-not-slot_holds.false,
  next_row _ _ c.loop-s.invariant.1,
  same-column _ c.loop-s.invariant.2,
)

pub returns : goal.returns
returns c = seeing-end _ _ (seeing-as _ _ c.loop-s.invariant.0 (column-none c.loop-s-test.false))
