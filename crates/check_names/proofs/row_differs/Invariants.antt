use Prim.Native.Nat.{◌+◌, ◌*◌}
use Rattle.check_names.specs.Buckets.{Differing}
use Rattle.check_names.proofs.row_differs.Given as goal

abbrev pub invariant-loop-column : goal.invariant-loop-column
invariant-loop-column l = Differing l.disk.g l.disk.image.now (32 * l.row + l.column) l.head l.next
