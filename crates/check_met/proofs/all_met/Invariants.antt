use Rattle.check_met.specs.Met.{met_at}
use Rattle.check_met.proofs.SlotMap.{RowsLeft}
use Rattle.check_met.proofs.all_met.Given as goal

abbrev pub invariant-loop-row : goal.invariant-loop-row
invariant-loop-row l = RowsLeft (met_at l.met) l.columns l.row
