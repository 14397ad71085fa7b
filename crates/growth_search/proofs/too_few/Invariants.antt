use Rattle.space.proofs.Clear.{Freed}
use Prim.Native.Nat.{◌-◌, ◌≤◌, ◌*◌}
use Rattle.growth_search.proofs.too_few.Given as goal

abbrev pub invariant-loop-b : goal.invariant-loop-b
invariant-loop-b l = (l.b ≤ l.disk.g.blocks) × (l.n ≤ 8 * (l.disk.g.blocks - l.b)) × Freed l.disk.g l.disk.image.now l.b l.n

abbrev pub decreases-loop-b : goal.decreases-loop-b
decreases-loop-b l = l.b

abbrev pub invariant-loop-rest : goal.invariant-loop-rest
invariant-loop-rest l = (l.rest ≤ l.disk.g.blocks) × (l.n ≤ 8 * (l.disk.g.blocks - l.rest)) × Freed l.disk.g l.disk.image.now l.rest l.n
