use Prim.Native.Nat.{◌*◌, ◌≤◌}
use Rattle.check_names.specs.Buckets.{Differing}
use Rattle.check_names.proofs.names_differ.Given as goal

abbrev pub invariant-loop-row : goal.invariant-loop-row
invariant-loop-row l = Differing l.disk.g l.disk.image.now (32 * l.row) l.head l.next × (l.row ≤ 8)
