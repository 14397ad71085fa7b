use mathlib.Core.Path.{refl}
use Rattle.fault_kinds.proofs.Noting.{walking_start, leading-start}
use mathlib.Core.Path.{◌∙◌}
use native.Mathlib.Omega.{arith}
use Rattle.fault_diagnosis.specs.Told.{after_slots}
use Rattle.fault_diagnosis.proofs.AllSlots.{all_slots, slot-found, slot-clear, slots-done, some-number}
use Rattle.fault_diagnosis.proofs.slots_fault.Goals as goal

pub note_files-requires : goal.note_files-requires
note_files-requires c = walking_start _ _

pub note_goods-requires : goal.note_goods-requires
note_goods-requires c = (c.note_files.ensures, leading-start _ _)

pub loop-s-init : goal.loop-s-init
loop-s-init c = let d = c.args.disk.now in all_slots d.g d.image.now (after_slots d.g d.image.now)

pub returns-in-Some : goal.returns-in-Some
returns-in-Some c = c.placed.ensures ∙ slot-found _ _ _ _ _ c.loop-s.invariant (c.number.ensures ∙ c.in-Some.ensures) c.loop-s-test.true
    (λ z. let k = some-number c.in-Some.kind in let e = c.number.ensures in omega (arith, z, k, e))

pub loop-s-preserved : goal.loop-s-preserved
loop-s-preserved c = slot-clear _ _ _ _ 0 c.loop-s.invariant c.in_default.ensures c.loop-s-test.true refl

pub returns : goal.returns
returns c = c.after_slots.ensures ∙ slots-done _ _ _ _ c.loop-s.invariant c.loop-s-test.false
