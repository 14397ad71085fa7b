use Prim.Native.Nat.{◌+◌, ◌-◌, ◌≤◌}
use mathlib.Core.Path.{◌≡◌}
use Rattle.free_space.specs.Pass.{bits}
use Rattle.free_space.proofs.each_bit.Given as goal

abbrev pub invariant-loop : goal.invariant-loop
invariant-loop l = (bits l.units l.byte l.initial.q ≡ bits (l.units - l.counter) l.x l.q) ×
    (l.q.free + l.q.here ≤ l.initial.q.free + l.initial.q.here + l.counter)
