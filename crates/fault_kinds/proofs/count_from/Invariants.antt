use Rattle.fault_kinds.proofs.Passes.{size}
use Rattle.fault_kinds.specs.Reach.{reach}
use Rattle.layout.specs.Room.{Slot}
use Prim.Native.Nat.{◌-◌, ◌+◌, ◌*◌, ◌≤◌}
use mathlib.Core.Path.{◌≡◌}
use Rattle.fault_kinds.proofs.count_from.Given as goal

abbrev pub invariant-loop : goal.invariant-loop
invariant-loop l = let g = l.disk.g in let d = l.disk.image.now in
    (size g d (reach g d l.n l.p) ≡ l.c + size g d (reach g d (l.n - l.counter) l.s)) × Slot g d l.s × (l.c + 128 * (l.n - l.counter) ≤ 32768)
