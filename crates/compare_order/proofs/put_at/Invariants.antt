use Rattle.compare_order.proofs.Moving.{Carrying}
use Rattle.compare_order.proofs.put_at.Given as goal

abbrev pub invariant-loop-k : goal.invariant-loop-k
invariant-loop-k l = Carrying l.initial.order l.n l.i l.x l.order l.k l.carried
