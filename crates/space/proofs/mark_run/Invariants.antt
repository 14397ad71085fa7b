use Rattle.space.proofs.Marks.{Marking}
use Rattle.space.proofs.mark_run.Given as goal

abbrev pub invariant-loop-u : goal.invariant-loop-u
invariant-loop-u l = Marking l.g l.set l.initial.image l.a l.n l.image l.b l.u l.left

abbrev pub decreases-loop-u : goal.decreases-loop-u
decreases-loop-u l = l.left
