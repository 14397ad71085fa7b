use Prim.Native.Nat.{◌-◌}
use Rattle.fault_kinds.proofs.Passes.{firm}
use Rattle.fault_kinds.specs.Reach.{reach}
use Rattle.layout.specs.Room.{Slot}
use Rattle.meaning.specs.Lists.{every}
use mathlib.Core.Path.{◌≡◌}
use Rattle.fault_kinds.proofs.whole_from.Given as goal

abbrev pub invariant-loop : goal.invariant-loop
invariant-loop l = let g = l.disk.g in let d = l.disk.image.now in
    (every (firm g d) (reach g d l.n l.p) ≡ every (firm g d) (reach g d (l.n - l.counter) l.s)) × Slot g d l.s
