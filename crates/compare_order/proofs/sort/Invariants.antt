use Rattle.compare_order.specs.Table.{InOrder}
use lib.ListN.{length}
use mathlib.Core.Path.{◌≡◌}
use Prim.Native.Nat.{◌*◌}
use Rattle.compare_order.proofs.sort.Given as goal

abbrev pub invariant-loop-s : goal.invariant-loop-s
invariant-loop-s l = InOrder l.disk.g l.disk.image.now l.order l.n l.s × (length l.order ≡ 256)

abbrev pub invariant-loop-row : goal.invariant-loop-row
invariant-loop-row l = InOrder l.disk.g l.disk.image.now l.order l.n (32 * l.row) × (length l.order ≡ 256)
