use Prim.Native.Nat.{◌+◌, ◌-◌, ◌≤◌}
use Rattle.check_map.specs.Owners.{Window}
use Rattle.check_map.proofs.directory_bits.Given as goal

abbrev pub invariant-loop-k : goal.invariant-loop-k
invariant-loop-k l = Window l.units l.a (l.k - l.a) l.at l.bits × (l.a ≤ l.k) × (l.k ≤ l.a + l.n)
