use Rattle.write.proofs.Parts.{Storing}
use lib.ListN.{replicate}
use Prim.Native.Nat.{◌-◌, ◌≤◌}
use Rattle.write.proofs.clear_bytes.Given as goal

abbrev pub invariant-loop-done : goal.invariant-loop-done
invariant-loop-done l = (l.done ≤ l.n) × Storing l.g l.initial.image l.s l.i (replicate l.done 0) l.image

abbrev pub decreases-loop-done : goal.decreases-loop-done
decreases-loop-done l = l.n - l.done
