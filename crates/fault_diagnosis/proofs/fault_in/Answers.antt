use mathlib.Core.Path.{◌∙◌}
use Rattle.lists.specs.Tests.{is-false, is-true}
use Rattle.layout.proofs.HasRoom.{slot-of}
use Rattle.fault_diagnosis.proofs.AllSlots.{none_in, one_in}
use Rattle.fault_diagnosis.proofs.fault_in.Goals as goal

pub returns-then-not-is_slot : goal.returns-then-not-is_slot
returns-then-not-is_slot c = none_in _ _ _ (is-false c.is_slot.ensures c.if-not-is_slot.true)

pub fault_at-requires : goal.fault_at-requires
fault_at-requires c = let p = c.requires in (slot-of _ _ _ (is-true c.is_slot.ensures c.if-not-is_slot.false), p.0, p.1, p.2, p.3)

pub returns : goal.returns
returns c = c.fault_at.ensures ∙ one_in _ _ _ (is-true c.is_slot.ensures c.if-not-is_slot.false)
