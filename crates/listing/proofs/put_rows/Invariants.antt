use Prim.Native.Nat.{◌-◌, ◌≤◌}
use Rattle.listing.proofs.Rows.{Rowing}
use Rattle.listing.proofs.put_rows.Given as goal

abbrev pub invariant-loop-s : goal.invariant-loop-s
invariant-loop-s l = (l.n ≤ l.from) × Rowing l.disk.g l.disk.image.now l.initial.table l.number l.left l.n l.from l.table

abbrev pub decreases-loop-s : goal.decreases-loop-s
decreases-loop-s l = 256 - l.from
