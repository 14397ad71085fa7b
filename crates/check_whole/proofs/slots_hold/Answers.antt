use Rattle.check_whole.specs.Slots.{sector_slots}
use Rattle.check_whole.proofs.SlotBySlot.{seeing-start, seeing-as, seeing-step, seeing-stop, seeing-end, sectors-are}
use Rattle.check_whole.proofs.SlotBySlot.{sectors-more, sectors-none}
use native.Mathlib.Omega.{arith}
use Rattle.check_whole.proofs.slots_hold.Goals as goal

pub loop-column-init : goal.loop-column-init
loop-column-init c = seeing-start _ _ _ _ (sectors-are _ _)

pub sector_holds-requires : goal.sector_holds-requires
sector_holds-requires c = (
  omega arith,
  c.requires,
)

pub returns-then-not-sector_holds : goal.returns-then-not-sector_holds
returns-then-not-sector_holds c = let l = c.loop-column in
    seeing-stop _ _ (sector_slots l.column) _ (seeing-as _ _ l.invariant (sectors-more (omega arith))) c.sector_holds.ensures
    c.if-not-sector_holds.true

pub loop-column-preserved : goal.loop-column-preserved
loop-column-preserved c = let l = c.loop-column in
    seeing-step _ _ (sector_slots l.column) _ (seeing-as _ _ l.invariant (sectors-more (omega arith))) c.sector_holds.ensures
    c.if-not-sector_holds.false

pub returns : goal.returns
returns c = seeing-end _ _ (seeing-as _ _ c.loop-column.invariant (sectors-none (omega arith)))
