use Rattle.trim.specs.Last.{Dropping}
use Rattle.trim.proofs.drop_last.Given as goal

abbrev pub invariant-loop-rest : goal.invariant-loop-rest
invariant-loop-rest l = Dropping l.g l.p l.initial.image l.n l.image l.rest.last l.rest.left

abbrev pub decreases-loop-rest : goal.decreases-loop-rest
decreases-loop-rest l = l.rest.left
