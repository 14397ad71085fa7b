use mathlib.Core.Path.{◌∙◌}
use Rattle.lists.specs.Tests.{is-false, is-true}
use Rattle.check_whole.proofs.SlotBySlot.{room_of}
use Rattle.fault_diagnosis.proofs.AllSlots.{length-no, length-yes}
use Rattle.fault_diagnosis.proofs.fault_of.Goals as goal

pub returns-then-not-length_holds : goal.returns-then-not-length_holds
returns-then-not-length_holds c = c.refusal.ensures ∙ length-no _ _ (is-false c.length_holds.ensures c.if-not-length_holds.true)

pub invariant_of-slots_fault : goal.invariant_of-slots_fault
invariant_of-slots_fault c = record { room = room_of _ _ c.requires (is-true c.length_holds.ensures c.if-not-length_holds.false) }

pub returns : goal.returns
returns c = c.slots_fault.ensures ∙ length-yes _ _ (is-true c.length_holds.ensures c.if-not-length_holds.false)
