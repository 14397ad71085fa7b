use Rattle.space.proofs.Folds.{Clearing}
use Rattle.space.proofs.kill_chain.Given as goal

abbrev pub invariant-loop : goal.invariant-loop
invariant-loop l = Clearing l.g l.initial.image l.most l.s l.image l.at l.counter
