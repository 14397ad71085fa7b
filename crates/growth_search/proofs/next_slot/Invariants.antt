use Rattle.growth_search.proofs.Search.{Looking}
use Rattle.growth_search.proofs.next_slot.Given as goal

abbrev pub invariant-loop-s : goal.invariant-loop-s
invariant-loop-s l = Looking l.disk.g l.disk.image.now l.from l.s
