use Rattle.compare_order.proofs.Sorting.{Halving}
use lib.ListN.{length}
use Prim.Native.Nat.{◌-◌}
use Rattle.compare_order.proofs.place_for.Given as goal

abbrev pub invariant-loop-low : goal.invariant-loop-low
invariant-loop-low l = Halving l.disk.g l.disk.image.now l.order (length l.order) l.s l.low l.high

abbrev pub decreases-loop-low : goal.decreases-loop-low
decreases-loop-low l = l.high - l.low
