use Rattle.fault_clear.specs.Clear.{ClearThrough}
use Rattle.check_map.specs.Owners.{standing}
use Rattle.fault_clear.proofs.runs_clear.Given as goal

abbrev pub invariant-loop-s : goal.invariant-loop-s
invariant-loop-s l = ClearThrough l.disk.g l.disk.image.now l.s (standing l.disk.g l.disk.image.now l.map)
