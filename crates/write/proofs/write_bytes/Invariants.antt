use Rattle.write.proofs.Parts.{Storing}
use lib.ListN.{take}
use Prim.Native.Nat.{◌-◌, ◌≤◌}
use Rattle.write.proofs.write_bytes.Given as goal

abbrev pub invariant-loop-done : goal.invariant-loop-done
invariant-loop-done l = (l.done ≤ l.n) × Storing l.g l.initial.image l.s l.i (take l.done l.src) l.image

abbrev pub decreases-loop-done : goal.decreases-loop-done
decreases-loop-done l = l.n - l.done
