use Rattle.growth_search.proofs.ClearFrom.{CountingClear}
use Rattle.growth_search.proofs.clear_from.Given as goal

abbrev pub invariant-loop-u : goal.invariant-loop-u
invariant-loop-u l = CountingClear l.disk.g l.disk.image.now l.a l.n l.b l.u l.left

abbrev pub decreases-loop-u : goal.decreases-loop-u
decreases-loop-u l = l.left
