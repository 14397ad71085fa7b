use Rattle.check_map.proofs.Owners.{Turning}
use Rattle.check_map.proofs.gat_map.Given as goal

abbrev pub invariant-loop-b : goal.invariant-loop-b
invariant-loop-b l = Turning l.image l.gat l.map l.b
