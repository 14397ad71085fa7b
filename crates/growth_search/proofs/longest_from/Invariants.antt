use Rattle.growth_search.proofs.Low.{Low}
use Rattle.growth_search.proofs.longest_from.Given as goal

abbrev pub invariant-loop-n : goal.invariant-loop-n
invariant-loop-n l = Low l.disk.g l.disk.image.now l.from l.n l.here l.low l.long
