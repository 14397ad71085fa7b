use Rattle.space.proofs.Folds.{Unchaining}
use Rattle.space.proofs.free_chain.Given as goal

abbrev pub invariant-loop : goal.invariant-loop
invariant-loop l = Unchaining l.g l.initial.image l.most l.s l.image l.at l.counter
