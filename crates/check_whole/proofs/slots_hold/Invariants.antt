use Prim.Native.Nat.{◌-◌}
use Rattle.meaning.specs.Layout.{directory_sectors}
use Rattle.check_whole.specs.Slots.{disk_slots}
use Rattle.check_whole.proofs.SlotBySlot.{Seeing, sectors_from}
use Rattle.check_map.specs.Owners.{standing}
use Rattle.check_whole.proofs.slots_hold.Given as goal

abbrev pub invariant-loop-column : goal.invariant-loop-column
invariant-loop-column l = Seeing l.disk.g l.disk.image.now (standing l.disk.g l.disk.image.now l.initial.map) l.initial.met
    (disk_slots l.disk.g l.disk.image.now) (standing l.disk.g l.disk.image.now l.map) l.met
    (sectors_from (directory_sectors l.disk.g l.disk.image.now - 2) l.column)
