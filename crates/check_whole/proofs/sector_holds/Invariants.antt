use mathlib.Core.Path.{◌≡◌}
use Prim.Native.Nat.{◌+◌, ◌-◌, ◌*◌, ◌/◌, ◌%◌}
use Rattle.check_whole.specs.Slots.{sector_slots}
use Rattle.check_whole.proofs.SlotBySlot.{Seeing, column_from}
use Rattle.check_map.specs.Owners.{standing}
use Rattle.check_whole.proofs.sector_holds.Given as goal

abbrev pub invariant-loop-s : goal.invariant-loop-s
invariant-loop-s l = Seeing l.disk.g l.disk.image.now (standing l.disk.g l.disk.image.now l.initial.map) l.initial.met (sector_slots l.column)
    (standing l.disk.g l.disk.image.now l.map) l.met (column_from l.s)
    × (l.at ≡ 256 * (l.disk.g.start + 2 + l.column) + 32 * (l.s / 32)) × (l.s % 32 ≡ l.column)

abbrev pub decreases-loop-s : goal.decreases-loop-s
decreases-loop-s l = 256 - l.s
