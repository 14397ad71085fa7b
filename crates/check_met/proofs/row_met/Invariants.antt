use Rattle.check_met.proofs.SlotMap.{RowMet}
use Prim.Native.Nat.{◌-◌}
use Rattle.check_met.proofs.row_met.Given as goal

abbrev pub invariant-loop-at : goal.invariant-loop-at
invariant-loop-at l = RowMet l.met l.first l.columns l.at

abbrev pub decreases-loop-at : goal.decreases-loop-at
decreases-loop-at l = l.end - l.at
