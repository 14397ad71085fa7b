use Rattle.fault_kinds.specs.Noted.{notes}
use Rattle.fault_kinds.specs.Reach.{reach}
use Rattle.layout.specs.Room.{Slot}
use Prim.Native.Nat.{◌-◌, ◌+◌}
use mathlib.Core.Path.{◌≡◌}
use Rattle.fault_kinds.proofs.note_walk.Given as goal

abbrev pub invariant-loop : goal.invariant-loop
invariant-loop l = let g = l.disk.g in let d = l.disk.image.now in
    (notes l.initial.files (l.p + 1) (reach g d l.n l.p) ≡ notes l.files (l.p + 1) (reach g d (l.n - l.counter) l.s)) × Slot g d l.s
