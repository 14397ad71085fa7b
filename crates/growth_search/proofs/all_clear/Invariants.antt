use Rattle.growth_search.proofs.Low.{ClearSoFar}
use Prim.Native.Nat.{◌+◌, ◌-◌}
use Rattle.growth_search.proofs.all_clear.Given as goal

abbrev pub invariant-loop-met : goal.invariant-loop-met
invariant-loop-met l = ClearSoFar l.disk.g l.disk.image.now l.n l.many (l.n + l.met) (l.many - l.met)
