use Rattle.fault_kinds.proofs.note_file.Goals.{else-is_slot-via-then-is_slot+else-primary, else-is_slot-via-else-is_slot}
use Rattle.std.proofs.Common.{arith, ◌≡◌, true}
use Rattle.std.proofs.lemmas.Grind.{common_steps}
use Rattle.layout.proofs.HasRoom.{slot-of}
use Rattle.lists.specs.Tests.{is-false, is-true}
use Rattle.meaning.specs.Layout.{is_slot}
use Rattle.meaning.specs.Entries.{in_use_primary}
use Rattle.fault_kinds.proofs.Noting.{walking_skip, walking-step, no-slot-starts, no-file-starts}
use Rattle.fault_kinds.proofs.note_file.Goals as goal

pub primary-requires : goal.primary-requires
primary-requires c = slot-of _ _ _ (is-true c.is_slot.ensures c.if-is_slot.true)

pub note_walk-requires : goal.note_walk-requires
note_walk-requires c = let a = c.args in let t : is_slot a.disk.now.g a.disk.now.image.now a.p ≡ true = grind (arith, common_steps) in slot-of _ _ _ t

pub returns-then-primary : goal.returns-then-primary
returns-then-primary c = let a = c.args in let t : is_slot a.disk.now.g a.disk.now.image.now a.p ≡ true = grind (arith, common_steps) in
    let u : in_use_primary a.disk.now.g a.disk.now.image.now a.p ≡ true = grind (arith, common_steps) in
    walking-step _ _ _ c.requires.0 t u c.requires.1 c.note_walk.ensures c.requires.2

pub returns-else-is_slot : goal.returns-else-is_slot
returns-else-is_slot c = let p = c.requires in elim c.else-is_slot.branch [
  | else-is_slot-via-then-is_slot+else-primary w ↦ walking_skip _ _ _ p.0 (no-file-starts _ _ _ (is-false w.primary.ensures w.if-primary.false)) p.2
  | else-is_slot-via-else-is_slot w ↦ walking_skip _ _ _ p.0 (no-slot-starts _ _ _ (is-false c.is_slot.ensures w.if-is_slot.false)) p.2
]
