use Rattle.check_walk.proofs.WalkSteps.{Entering}
use Rattle.check_map.specs.Owners.{standing}
use Rattle.check_walk.proofs.take_runs.Given as goal

abbrev pub invariant-loop-k : goal.invariant-loop-k
invariant-loop-k l = Entering l.disk.g l.disk.image.now l.s 1 (standing l.disk.g l.disk.image.now l.initial.map)
    (standing l.disk.g l.disk.image.now l.map) l.k l.n
