use Rattle.std.specs.Prelude.{None}
use Rattle.space.proofs.First.{NoneBelow}
use Rattle.meaning.specs.Free.{free_slot}
use Prim.Native.Nat.{◌+◌, ◌*◌}
use mathlib.Core.Path.{◌≡◌}
use Rattle.space.proofs.first_free_slot.Given as goal

abbrev pub invariant-loop-s : goal.invariant-loop-s
invariant-loop-s l = (l.found ≡ None) × NoneBelow (free_slot l.disk.g l.disk.image.now) (32 * l.row + l.s)

abbrev pub invariant-rows : goal.invariant-rows
invariant-rows l = (l.found ≡ None) × NoneBelow (free_slot l.disk.g l.disk.image.now) (32 * l.row)
