use Rattle.free_space.proofs.GatPass.{Going}
use Prim.Native.Nat.{◌-◌, ◌+◌, ◌*◌, ◌≤◌}
use Rattle.free_space.proofs.pass.Given as goal

abbrev pub invariant-loop-b : goal.invariant-loop-b
invariant-loop-b l = (l.b ≤ l.g.blocks) × (l.seen.free + l.seen.here ≤ 8 * l.b) × Going l.g l.image l.b l.seen

abbrev pub decreases-loop-b : goal.decreases-loop-b
decreases-loop-b l = l.g.blocks - l.b
