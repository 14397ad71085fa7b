use Rattle.fault_kinds.proofs.tell_from.Goals.{else-is_slot-via-then-is_slot+then-hands_on+else-walked, else-is_slot-via-then-is_slot+else-hands_on}
use Rattle.fault_kinds.proofs.tell_from.Goals.{else-is_slot-via-else-is_slot}
use Rattle.std.proofs.Common.{subst, List, ℕ, ◌+◌}
use Rattle.std.proofs.Common.{arith, sym}
use Rattle.layout.proofs.HasRoom.{slot-of}
use Rattle.lists.specs.Tests.{is-false, is-true}
use Rattle.fault_kinds.specs.Noted.{Leading}
use Rattle.fault_kinds.proofs.Noting.{leading-skip, leading_step, no-slot-leads, no-hand-leads, no-walk-leads, leads-to}
use Rattle.fault_kinds.proofs.tell_from.Goals as goal

pub hands_on-requires : goal.hands_on-requires
hands_on-requires c = slot-of _ _ _ (is-true c.is_slot.ensures c.if-is_slot.true)

pub field-x-requires : goal.field-x-requires
field-x-requires c = (slot-of _ _ _ (is-true c.is_slot.ensures c.if-is_slot.true), omega arith)

pub tally-t-requires : goal.tally-t-requires
tally-t-requires c = leads-to _ _ _ (is-true c.is_slot.ensures c.if-is_slot.true) c.field-x.ensures.is
    (is-true c.hands_on.ensures c.if-hands_on.true) (is-true c.walked.ensures c.if-walked.true)

pub returns-then-walked : goal.returns-then-walked
returns-then-walked c = let a = c.args in subst (λ (l : List ℕ). Leading a.disk.now.g a.disk.now.image.now (a.b + 1) l) (sym c.tell.ensures)
    (leading_step _ _ _ _ _ c.requires.1 c.field-x.ensures.is c.field-x.ensures.small c.tally-t.ensures.0 c.tally-t.ensures.1 c.tally-t.ensures.2 c.requires.2)

pub returns-else-is_slot : goal.returns-else-is_slot
returns-else-is_slot c = let p = c.requires in elim c.else-is_slot.branch [
  | else-is_slot-via-then-is_slot+then-hands_on+else-walked w ↦ leading-skip _ _ _ p.1 (no-walk-leads _ _ _ (is-false w.walked.ensures w.if-walked.false)) p.2
  | else-is_slot-via-then-is_slot+else-hands_on w ↦ leading-skip _ _ _ p.1 (no-hand-leads _ _ _ (is-false w.hands_on.ensures w.if-hands_on.false)) p.2
  | else-is_slot-via-else-is_slot w ↦ leading-skip _ _ _ p.1 (no-slot-leads _ _ _ (is-false c.is_slot.ensures w.if-is_slot.false)) p.2
]
