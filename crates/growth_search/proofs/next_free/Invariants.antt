use Rattle.growth_search.proofs.Search.{Passing}
use Prim.Native.Nat.{◌-◌}
use Rattle.growth_search.proofs.next_free.Given as goal

abbrev pub invariant-loop-n : goal.invariant-loop-n
invariant-loop-n l = Passing l.disk.g l.disk.image.now l.from l.n l.total

abbrev pub decreases-loop-n : goal.decreases-loop-n
decreases-loop-n l = l.total - l.n
